use Rattle.tree.proofs.Rereading.{equal_prints}
use Rattle.tree.proofs.laws.equal_prints_have_equal_trees.Goals as goal

pub returns : goal.returns
returns c = equal_prints
