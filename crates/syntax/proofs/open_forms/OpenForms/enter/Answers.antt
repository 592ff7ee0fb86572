use Rattle.std.proofs.Common.{rules}
use Rattle.syntax.proofs.Stacks.{length-newest, newest_push}
use Rattle.syntax.proofs.open_forms.OpenForms.enter.Goals as goal

pub returns-else-self-ge-NESTING_LIMIT : goal.returns-else-self-ge-NESTING_LIMIT
returns-else-self-ge-NESTING_LIMIT c = search (rules, length-newest, newest_push)
