use Rattle.tree.proofs.Accepting.{accepting}
use Rattle.tree.proofs.laws.accepted_text_prints_as_itself.Goals as goal

pub returns : goal.returns
returns c = accepting
