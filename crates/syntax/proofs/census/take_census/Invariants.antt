use Rattle.std.proofs.Common.{◌≡◌, ◌-◌, length}
use Rattle.syntax.specs.Readers.{place_of, opens_of}
use Rattle.syntax.proofs.Counting.{Sofar}
use Rattle.syntax.proofs.census.take_census.Given as goal

abbrev pub invariant-loop-lexeme : goal.invariant-loop-lexeme
invariant-loop-lexeme l = record { sofar : Sofar l.text l.reader l.census; at_depth : l.depth ≡ length (opens_of l.reader) }

abbrev pub decreases-loop-lexeme : goal.decreases-loop-lexeme
decreases-loop-lexeme l = length l.text - place_of l.reader
