use Rattle.tree.proofs.Rereading.{rereading}
use Rattle.tree.proofs.laws.printed_tree_reads_as_itself.Goals as goal

pub returns : goal.returns
returns c = rereading
