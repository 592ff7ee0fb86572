-- What a line of a script is. Assumes nothing.
--
-- line_limit       the most bytes of a line
-- line_refusal line  why a line is refused: it is too long, or else no command
-- Parses line r    a line within the limit is the command that it is written as; a line that is none, or too long, is refused
use Rattle.std.specs.Prelude.{◌≡◌, ℕ, ◌≤◌, cond, List, length, Some, None, Ok, Err, Result, nat_lt}
use Rattle.protocol.specs.declared.command.Command.{Command}
use Rattle.protocol.specs.declared.refusal.Refusal.{Refusal}
use Rattle.protocol.specs.declared.refusal.Refusal.TheVariants as R
use Rattle.protocol.specs.Requests.{Written}

abbrev pub line_limit : ℕ
line_limit = 256

abbrev pub line_refusal : List ℕ → Refusal
line_refusal line = cond (nat_lt line_limit (length line)) R.LineTooLong R.NoCommand

abbrev pub Parses : List ℕ → Result Command Refusal → Type 0
Parses line (Ok c) = (length line ≤ line_limit) × Written line (Some c)
Parses line (Err f) = (f ≡ line_refusal line) × (length line ≤ line_limit → Written line None)
