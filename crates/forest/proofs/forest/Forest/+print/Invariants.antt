use Rattle.forest.specs.Unfolding.{chain_width}
use Rattle.forest.proofs.Printing.{Printing}
use Rattle.forest.proofs.forest.Forest.+print.Given as goal

abbrev pub decreases-print : goal.decreases-print
decreases-print l = chain_width l.self.now l.first

abbrev pub invariant-loop-next : goal.invariant-loop-next
invariant-loop-next l = Printing l.self l.initial.next l.next l.initial.place l.place l.initial.buffer l.buffer

abbrev pub decreases-loop-next : goal.decreases-loop-next
decreases-loop-next l = chain_width l.self l.next
