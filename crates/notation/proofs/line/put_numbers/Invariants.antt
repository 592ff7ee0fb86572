use Rattle.std.proofs.Common.{◌≡◌, ◌+◌, ◌*◌, ◌≤◌, ◌++◌, length, take}
use Rattle.notation.specs.Numbers.{numbered}
use Rattle.notation.proofs.line.put_numbers.Given as goal

abbrev pub invariant-loop-number : goal.invariant-loop-number
invariant-loop-number l = record {
  length : length l.line ≡ length l.initial.line;
  place : l.place ≤ l.initial.at + 21 * l.number-index;
  put : take l.place l.line ≡ take l.initial.at l.initial.line ++ numbered (take l.number-index l.initial.numbers);
}
