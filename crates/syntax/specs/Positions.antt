-- Where a place is in a text: line and column, both from 1; and how many lines a text has. Assumes nothing.
--
-- ends_line b       the byte b is a line end
-- line_ends text    how many bytes of the text are line ends
-- unfinished text   how many bytes stand behind the last line end
-- position_at t p   line and column of the place p of the text t: 1 and the line ends before p, 1 and the bytes
--                   between the start of that line and p
-- position t p      the same, or none where p is past the end or the text is too long
-- lines text        the line ends, and one more where bytes stand behind the last one
use Rattle.std.specs.Prelude.{ℕ, ◌+◌, Bool, cond, not, ◌&&◌, List, length, take, Some, None, count_by, Option, nat_le, nat_lt}
use Rattle.std.specs.List.{suffix_len}
use Rattle.syntax.specs.Classes.{class}
use Rattle.syntax.specs.Limits.{text_limit}
use Rattle.syntax.specs.Tokens.{is}
use Rattle.syntax.specs.declared.class.Class.TheVariants as C
use Rattle.syntax.specs.declared.position.Position.{Position}

abbrev pub ends_line : ℕ → Bool
ends_line b = is (class b) C.LineEnd

abbrev pub line_ends : List ℕ → ℕ
line_ends text = count_by ends_line text

abbrev pub unfinished : List ℕ → ℕ
unfinished text = suffix_len (λ b. not (ends_line b)) text

abbrev pub position_at : List ℕ → ℕ → Position
position_at text p = record { line = 1 + line_ends (take p text); column = 1 + unfinished (take p text) }

abbrev pub position : List ℕ → ℕ → Option Position
position text p = cond (nat_le p (length text) && nat_le (length text) text_limit) (Some (position_at text p)) None

abbrev pub lines : List ℕ → ℕ
lines text = line_ends text + cond (nat_lt 0 (unfinished text)) 1 0
