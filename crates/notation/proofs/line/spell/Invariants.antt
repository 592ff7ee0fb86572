use Rattle.notation.proofs.Spelling.{Spelt}
use Rattle.notation.proofs.line.spell.Given as goal

abbrev pub invariant-loop-left : goal.invariant-loop-left
invariant-loop-left l = Spelt l.initial.number l.left l.first l.digits

abbrev pub decreases-loop-left : goal.decreases-loop-left
decreases-loop-left l = l.left
