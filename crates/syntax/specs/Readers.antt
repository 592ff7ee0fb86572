-- A reader on its way through a text. Assumes nothing.
--
-- text_of r           the whole text
-- place_of r          the number of bytes that were read
-- opens_of r          the places of the open bytes of the forms that are open, the newest first
-- left r              the pieces that the reader has before it, or the fault
-- next os p bs        what a reader meets at place p, before bs, where the forms of os are open
-- Next s before r after   a reader that met s answered r, and is as `after` says
use Rattle.std.specs.Prelude.{◌≡◌, ℕ, ◌+◌, List, [], ◌∷◌, drop, Some, None, Ok, Err, Option, Result}
use Rattle.syntax.specs.OpenForms.{open_places}
use Rattle.syntax.specs.Reading.{Piece, Step, then, raised, step, unclosed, pieces}
use Rattle.syntax.specs.declared.fault.ReadFault.{ReadFault}
use Rattle.syntax.specs.declared.fault.ReadFault.TheVariants as R
use Rattle.syntax.specs.declared.lexeme.Lexeme.{Lexeme}
use Rattle.syntax.specs.declared.reader.Reader.{Reader}

abbrev pub text_of : Reader → List ℕ
text_of r = r.text.now

abbrev pub place_of : Reader → ℕ
place_of r = r.at

abbrev pub opens_of : Reader → List ℕ
opens_of r = open_places r.opens

abbrev pub left : Reader → Result (List Piece) ReadFault
left r = pieces (opens_of r) (place_of r) 0 (drop (place_of r) (text_of r))

abbrev pub next : List ℕ → ℕ → List ℕ → Result (Option Step) ReadFault
next os p [] = raised R.Bracket (unclosed None os)
next os p (b ∷ bs) = then (step os p b bs) (λ s. Ok (Some s))

pub record Stays (before after : Reader) : Type 0 where
  pub text : text_of after ≡ text_of before
  pub place : place_of after ≡ place_of before
  pub opens : opens_of after ≡ opens_of before

pub record Goes (s : Step) (before after : Reader) : Type 0 where
  pub text : text_of after ≡ text_of before
  pub place : place_of after ≡ place_of before + s.lexeme.len
  pub opens : opens_of after ≡ s.opens

abbrev pub Next : Result (Option Step) ReadFault → Reader → Result (Option Lexeme) ReadFault → Reader → Type 0
Next (Ok (Some s)) before r after = (r ≡ Ok (Some s.lexeme)) × Goes s before after
Next (Ok None) before r after = (r ≡ Ok None) × Stays before after
Next (Err f) before r after = (r ≡ Err f) × Stays before after
