-- Reading: a text's pieces in their order, or its first fault. Assumes nothing.
--
-- Piece              a lexeme's kind and its bytes
-- opened os p k      the forms that are open after a lexeme of kind k at place p, where those of os were open:
--                    the places of their open bytes, the newest first; or the fault
-- step os p b bs     the lexeme that begins with the byte b, at place p, before bs, and the forms that are open after it
-- unclosed a os      what the end of the text gives, a fault where forms are open, else a
-- pieces os p n bs   the pieces of bs, which begins at place p, where the forms of os are open and the first n bytes
--                    belong to a piece before
-- reading text       the pieces of a text, or its first fault
use Rattle.std.specs.Prelude.{ℕ, zero, suc, ◌+◌, ◌-◌, cond, List, [], ◌∷◌, length, take, Ok, Err, Result, nat_lt}
use Rattle.syntax.specs.Lexemes.{lexeme}
use Rattle.syntax.specs.Limits.{nesting_limit}
use Rattle.syntax.specs.Layers.{BracketFault}
use Rattle.syntax.specs.declared.fault.BracketFaultKind.TheVariants.{UnmatchedClose, UnclosedForm, TooDeep}
use Rattle.syntax.specs.declared.fault.ReadFault.{ReadFault}
use Rattle.syntax.specs.declared.fault.ReadFault.TheVariants as R
use Rattle.syntax.specs.declared.lexeme.Lexeme.{Lexeme}
use Rattle.syntax.specs.declared.lexeme.LexemeKind.{LexemeKind}
use Rattle.syntax.specs.declared.lexeme.LexemeKind.TheVariants.{Open, Close, Token}

pub record Piece : Type 0 where
  pub kind : LexemeKind
  pub bytes : List ℕ

pub record Step : Type 0 where
  pub lexeme : Lexeme
  pub opens : List ℕ

-- what comes of a value, unless there was a fault before
abbrev pub then : {A B E : Type 0} → Result A E → (A → Result B E) → Result B E
then (Ok a) f = f a
then (Err e) f = Err e

-- a fault as one of the layer above
abbrev pub raised : {A E F : Type 0} → (E → F) → Result A E → Result A F
raised f (Ok a) = Ok a
raised f (Err e) = Err (f e)

abbrev pub opened : List ℕ → ℕ → LexemeKind → Result (List ℕ) BracketFault
opened os p Open = cond (nat_lt (length os) nesting_limit) (Ok (p ∷ os)) (Err (record { kind = TooDeep; place = p }))
opened [] p Close = Err (record { kind = UnmatchedClose; place = p })
opened (o ∷ os) p Close = Ok os
opened os p (Token k) = Ok os

abbrev pub entered : List ℕ → ℕ → Lexeme → Result Step ReadFault
entered os p l = then (raised R.Bracket (opened os p l.kind)) (λ now. Ok (record { lexeme = l; opens = now }))

abbrev pub step : List ℕ → ℕ → ℕ → List ℕ → Result Step ReadFault
step os p b bs = then (raised R.Token (lexeme p b bs)) (entered os p)

abbrev pub unclosed : {A : Type 0} → A → List ℕ → Result A BracketFault
unclosed a [] = Ok a
unclosed a (o ∷ os) = Err (record { kind = UnclosedForm; place = o })

abbrev pub piece : Lexeme → List ℕ → Piece
piece l bs = record { kind = l.kind; bytes = take l.len bs }

abbrev pub first : Piece → Result (List Piece) ReadFault → Result (List Piece) ReadFault
first p (Ok ps) = Ok (p ∷ ps)
first p (Err f) = Err f

unfoldable pub pieces : List ℕ → ℕ → ℕ → List ℕ → Result (List Piece) ReadFault
pieces os p n [] = raised R.Bracket (unclosed [] os)
pieces os p (suc n) (b ∷ bs) = pieces os (p + 1) n bs
pieces os p zero (b ∷ bs) =
    then (step os p b bs) (λ s. first (piece s.lexeme (b ∷ bs)) (pieces s.opens (p + 1) (s.lexeme.len - 1) bs))

abbrev pub reading : List ℕ → Result (List Piece) ReadFault
reading text = pieces [] 0 0 text
