-- The lexeme at the front of some bytes: a bracket, or a token that is as long as its kind allows. Assumes nothing.
--
-- run k bs           how many bytes at the front of bs go on with a token of kind k
-- finished k n p     a token of kind k and n bytes that begins at place p, if it keeps the limit
-- closing c k p n    what comes of an opened token of n bytes so far that is stopped by a byte of class c
-- ended k p n bs     the same, stopped by the first byte of bs or by the end of the text
-- delimited k p bs   a quoted or a comment that opens at place p, at the front of bs
-- lexeme_by c p bs   the lexeme at the front of bs, at place p, where the first byte has class c
-- lexeme p b bs      the lexeme that begins with the byte b, at place p, before bs
-- lexeme_at p bs     the lexeme at the front of bs, at place p; none at the end
-- Rule k bs          bs is a lexeme of kind k
-- runs_on k b        a lexeme of kind k would have taken in the byte b behind it
-- Longest k n bs     the first n bytes of bs are a lexeme of kind k, and no longer one could be taken
-- Found p r bs       r tells such a lexeme of bs, which begins at place p, or that bs is empty, or a fault within bs
use Rattle.std.specs.Prelude.{◌≡◌, ℕ, suc, ◌+◌, ◌<◌, ◌≤◌, Bool, false, cond, List, [], ◌∷◌, length, take, drop, Some, None, Ok, Err, Option, Result, nat_le}
use Rattle.std.specs.List.{prefix_len, AllByRecursion}
use Rattle.syntax.specs.Classes.{class}
use Rattle.syntax.specs.Limits.{token_limit}
use Rattle.syntax.specs.Tokens.{is, continues, closes_class, Obeys}
use Rattle.syntax.specs.declared.class.Class.{Class}
use Rattle.syntax.specs.declared.class.Class.TheVariants as C
use Rattle.syntax.specs.Layers.{TokenFault}
use Rattle.syntax.specs.declared.fault.TokenFaultKind.TheVariants.{ForeignByte, Unfinished, TooLong}
use Rattle.syntax.specs.declared.kind.Kind.{Kind}
use Rattle.syntax.specs.declared.kind.Kind.TheVariants as K
use Rattle.syntax.specs.declared.lexeme.Lexeme.{Lexeme}
use Rattle.syntax.specs.declared.lexeme.LexemeKind.{LexemeKind}
use Rattle.syntax.specs.declared.lexeme.LexemeKind.TheVariants.{Open, Close, Token}

abbrev pub run : Kind → List ℕ → ℕ
run k bs = prefix_len (continues k) bs

abbrev pub finished : Kind → ℕ → ℕ → Result Lexeme TokenFault
finished k n p = cond (nat_le n token_limit) (Ok (record { kind = Token k; len = n })) (Err (record { kind = TooLong k; place = p }))

abbrev pub closing : Class → Kind → ℕ → ℕ → Result Lexeme TokenFault
closing c k p n =
    cond (closes_class k c) (finished k (n + 1) p)
    (cond (is c C.Foreign) (Err (record { kind = ForeignByte; place = p + n }))
    (Err (record { kind = Unfinished k; place = p })))

abbrev pub ended : Kind → ℕ → ℕ → List ℕ → Result Lexeme TokenFault
ended k p n [] = Err (record { kind = Unfinished k; place = p })
ended k p n (b ∷ bs) = closing (class b) k p n

abbrev pub delimited : Kind → ℕ → List ℕ → Result Lexeme TokenFault
delimited k p bs = ended k p (suc (run k (drop 1 bs))) (drop (suc (run k (drop 1 bs))) bs)

abbrev pub lexeme_by : Class → ℕ → List ℕ → Result Lexeme TokenFault
lexeme_by C.Open p bs = Ok (record { kind = Open; len = 1 })
lexeme_by C.Close p bs = Ok (record { kind = Close; len = 1 })
lexeme_by C.LineEnd p bs = Ok (record { kind = Token K.LineEnd; len = 1 })
lexeme_by C.Blank p bs = finished K.Blank (run K.Blank bs) p
lexeme_by C.Word p bs = finished K.Word (run K.Word bs) p
lexeme_by C.Quote p bs = delimited K.Quoted p bs
lexeme_by C.Comment p bs = delimited K.Comment p bs
lexeme_by C.Foreign p bs = Err (record { kind = ForeignByte; place = p })

abbrev pub lexeme : ℕ → ℕ → List ℕ → Result Lexeme TokenFault
lexeme p b bs = lexeme_by (class b) p (b ∷ bs)

abbrev pub some : Result Lexeme TokenFault → Result (Option Lexeme) TokenFault
some (Ok l) = Ok (Some l)
some (Err f) = Err f

abbrev pub lexeme_at : ℕ → List ℕ → Result (Option Lexeme) TokenFault
lexeme_at p [] = Ok None
lexeme_at p (b ∷ bs) = some (lexeme p b bs)

abbrev pub Rule : LexemeKind → List ℕ → Type 0
Rule Open bs = (length bs ≡ 1) × AllByRecursion (λ b. class b ≡ C.Open) bs
Rule Close bs = (length bs ≡ 1) × AllByRecursion (λ b. class b ≡ C.Close) bs
Rule (Token k) bs = Obeys k bs × (length bs ≤ token_limit)

abbrev pub runs_on : LexemeKind → ℕ → Bool
runs_on Open b = false
runs_on Close b = false
runs_on (Token K.LineEnd) b = false
runs_on (Token K.Blank) b = continues K.Blank b
runs_on (Token K.Word) b = continues K.Word b
runs_on (Token K.Quoted) b = false
runs_on (Token K.Comment) b = false

-- no byte behind could have been taken in
abbrev pub Stops : LexemeKind → List ℕ → Type 0
Stops k [] = Unit {0}
Stops k (b ∷ bs) = runs_on k b ≡ false

pub record Longest (k : LexemeKind) (n : ℕ) (bs : List ℕ) : Type 0 where
  pub some : 0 < n
  pub within : n ≤ length bs
  pub rule : Rule k (take n bs)
  pub stops : Stops k (drop n bs)

abbrev pub Found : ℕ → Result (Option Lexeme) TokenFault → List ℕ → Type 0
Found p (Ok (Some l)) bs = Longest l.kind l.len bs
Found p (Ok None) bs = bs ≡ []
Found p (Err f) bs = (p ≤ f.place) × (f.place < p + length bs)
