use Rattle.std.proofs.Common.{sym}
use Rattle.syntax.proofs.Stacks.{length-newest}
use Rattle.syntax.proofs.open_forms.OpenForms.depth.Goals as goal

pub returns : goal.returns
returns c = sym (length-newest c.args.self.now.places c.args.self.now.depth)
