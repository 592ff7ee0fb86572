use Rattle.tree.proofs.Counting.{counting}
use Rattle.tree.proofs.laws.census_counts_the_tree.Goals as goal

pub returns : goal.returns
returns c = counting
