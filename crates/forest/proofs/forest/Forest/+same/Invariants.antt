use Rattle.forest.specs.Unfolding.{chain_width}
use Rattle.forest.proofs.Comparing.{Agreeing}
use Rattle.forest.proofs.forest.Forest.+same.Given as goal

abbrev pub decreases-same : goal.decreases-same
decreases-same l = chain_width l.self.now l.left

abbrev pub invariant-loop-one : goal.invariant-loop-one
invariant-loop-one l = Agreeing l.self l.initial.one l.initial.other l.one l.other

abbrev pub decreases-loop-one : goal.decreases-loop-one
decreases-loop-one l = chain_width l.self l.one
