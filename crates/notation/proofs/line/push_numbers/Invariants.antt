use Rattle.std.proofs.Common.{◌≡◌, ◌+◌, ◌*◌, ◌≤◌, ◌++◌, length, take}
use Rattle.notation.specs.Numbers.{numbered}
use Rattle.notation.proofs.line.push_numbers.Given as goal

abbrev pub invariant-loop-number : goal.invariant-loop-number
invariant-loop-number g l = record {
  put : l.line.bytes ≡ l.initial.line.bytes ++ numbered (take l.number-index l.initial.numbers);
  room : length l.line.bytes ≤ length l.initial.line.bytes + 21 * l.number-index;
}
