use Rattle.std.proofs.Common.{◌≡◌, ◌*◌, max, drop}
use Rattle.allocator.specs.Allocations.{first_clear}
use Rattle.allocator.proofs.bitmap.Bitmap.first_clear.Given as goal

abbrev pub invariant-loop-word : goal.invariant-loop-word
invariant-loop-word l =
    first_clear (drop (max l.from (l.word * 64)) l.self) (max l.from (l.word * 64)) ≡ first_clear (drop l.from l.self) l.from
