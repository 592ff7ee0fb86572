use Rattle.forest.proofs.Framing.{one_chain_one_tree}
use Rattle.forest.proofs.laws.a_chain_has_one_tree.Goals as goal

pub returns : goal.returns
returns c = one_chain_one_tree
