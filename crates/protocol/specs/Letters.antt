-- The letters of commands. Assumes nothing.
--
-- letter_byte l      the byte that a script has for a letter
-- NamesLetter b r    what the byte b is read as: the letter that has it, or the byte itself, which no letter has
use Rattle.std.specs.Prelude.{◌≡◌, ℕ, Ok, Err, Result, ◌≢◌}
use Rattle.protocol.specs.declared.command.Letter.{Letter}
use Rattle.protocol.specs.declared.command.Letter.TheVariants as L
use Rattle.protocol.specs.declared.command.UnknownLetter.{UnknownLetter}

abbrev pub letter_byte : Letter → ℕ
letter_byte L.Load = 76
letter_byte L.Splice = 83
letter_byte L.Fork = 70
letter_byte L.Undo = 85
letter_byte L.Release = 82
letter_byte L.Print = 80
letter_byte L.Same = 69

abbrev pub NamesLetter : ℕ → Result Letter UnknownLetter → Type 0
NamesLetter b (Ok l) = letter_byte l ≡ b
NamesLetter b (Err e) = (e.0 ≡ b) × ((l : Letter) → letter_byte l ≢ b)
