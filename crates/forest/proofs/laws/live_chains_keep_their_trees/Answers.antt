use Rattle.forest.proofs.Framing.{live_chain_stays}
use Rattle.forest.proofs.laws.live_chains_keep_their_trees.Goals as goal

pub returns : goal.returns
returns c = live_chain_stays
