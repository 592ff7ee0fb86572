-- How tokens and printed chains begin, and what stops a token before them. Assumes nothing.
use Rattle.std.proofs.Common.{◌≡◌, ℕ, ◌<◌, Bool, true, false, cond, ◌&&◌, ◌||◌, eqb, leb, List, [], ◌∷◌, ◌++◌, length, Some, sym, refl, ap, ◌∙◌, subst, arith}
use Rattle.std.specs.List.{AllByRecursion}
use Rattle.std.proofs.lemmas.Bool.{eqb-true}
use Rattle.syntax.specs.Classes.{class}
use Rattle.syntax.specs.Lexemes.{Rule, runs_on, Stops}
use Rattle.syntax.specs.Tokens.{is, Obeys, Delimited}
use Rattle.syntax.specs.declared.class.Class.{Class}
use Rattle.syntax.specs.declared.class.Class.TheVariants as C
use Rattle.syntax.specs.declared.kind.ItemKind.TheVariants as I
use Rattle.syntax.specs.declared.kind.Kind.{Kind}
use Rattle.syntax.specs.declared.kind.Kind.TheVariants as K
use Rattle.syntax.specs.declared.lexeme.LexemeKind.TheVariants as L
use Rattle.tree.specs.Items.{first_kind}
use Rattle.tree.specs.Trees.{Tree, nil, token, form, open_byte, close_byte, printed}
use Rattle.tree.specs.WellFormed.{clash, TokensObey}

-- the class of a token's first byte
abbrev first_class : Kind → Class
first_class K.LineEnd = C.LineEnd
first_class K.Blank = C.Blank
first_class K.Word = C.Word
first_class K.Quoted = C.Quote
first_class K.Comment = C.Comment

pub record Begins (k : Kind) (bs : List ℕ) : Type 0 where
  pub byte : ℕ
  pub rest : List ℕ
  pub whole : bs ≡ byte ∷ rest
  pub has : class byte ≡ first_class k

begins_all : (k : Kind) (c : Class) (bs : List ℕ) → c ≡ first_class k → 0 < length bs → AllByRecursion (λ b. class b ≡ c) bs → Begins k bs
begins_all k c [] e h all = absurd (omega arith)
begins_all k c (b ∷ bs) e h all = record { byte = b; rest = bs; whole = refl; has = all.0 ∙ e }

begins_delimited : (k : Kind) (o c : Class) (bs : List ℕ) → o ≡ first_class k → Delimited o k c bs → Begins k bs
begins_delimited k o c bs e d = record { byte = d.front; rest = d.inner ++ d.back ∷ []; whole = d.whole; has = d.opens ∙ e }

pub begins : (k : Kind) (bs : List ℕ) → Obeys k bs → Begins k bs
begins K.LineEnd bs h = begins_all K.LineEnd C.LineEnd bs refl (omega (arith, h.0)) h.1
begins K.Blank bs h = begins_all K.Blank C.Blank bs refl h.0 h.1
begins K.Word bs h = begins_all K.Word C.Word bs refl h.0 h.1
begins K.Quoted bs h = begins_delimited K.Quoted C.Quote C.Quote bs refl h
begins K.Comment bs h = begins_delimited K.Comment C.Comment C.LineEnd bs refl h

-- a token stops before any byte of a class that does not go on with it
abbrev goes_on : Kind → Class → Bool
goes_on K.LineEnd c = false
goes_on K.Blank c = is c C.Blank
goes_on K.Word c = is c C.Word
goes_on K.Quoted c = false
goes_on K.Comment c = false

runs_on-class : (k : Kind) (b : ℕ) → runs_on (L.Token k) b ≡ goes_on k (class b)
runs_on-class K.LineEnd b = refl
runs_on-class K.Blank b = refl
runs_on-class K.Word b = refl
runs_on-class K.Quoted b = refl
runs_on-class K.Comment b = refl

-- two tokens run together exactly where the first goes on over the second's first byte
clash_goes_on : (k j : Kind) → clash (I.Token k) (Some (I.Token j)) ≡ goes_on k (first_class j)
clash_goes_on K.LineEnd j = refl
clash_goes_on K.Quoted j = refl
clash_goes_on K.Comment j = refl
clash_goes_on K.Blank K.LineEnd = refl
clash_goes_on K.Blank K.Blank = refl
clash_goes_on K.Blank K.Word = refl
clash_goes_on K.Blank K.Quoted = refl
clash_goes_on K.Blank K.Comment = refl
clash_goes_on K.Word K.LineEnd = refl
clash_goes_on K.Word K.Blank = refl
clash_goes_on K.Word K.Word = refl
clash_goes_on K.Word K.Quoted = refl
clash_goes_on K.Word K.Comment = refl

clash_form : (k : Kind) → clash (I.Token k) (Some I.Form) ≡ false
clash_form K.LineEnd = refl
clash_form K.Blank = refl
clash_form K.Word = refl
clash_form K.Quoted = refl
clash_form K.Comment = refl

goes_on_bracket : (k : Kind) → (goes_on k C.Open ≡ false) × (goes_on k C.Close ≡ false)
goes_on_bracket K.LineEnd = (refl, refl)
goes_on_bracket K.Blank = (refl, refl)
goes_on_bracket K.Word = (refl, refl)
goes_on_bracket K.Quoted = (refl, refl)
goes_on_bracket K.Comment = (refl, refl)

-- what may come behind a chain: nothing, or a close byte
abbrev pub Closes : List ℕ → Type 0
Closes [] = Unit {0}
Closes (x ∷ xs) = x ≡ close_byte

-- where neighbours do not run together, a token stops before the chain behind it
pub stops_before : (k : Kind) (t : Tree) (ys : List ℕ) → TokensObey t → clash (I.Token k) (first_kind t) ≡ false → Closes ys → Stops (L.Token k) (printed t ++ ys)
stops_before k nil [] obey apart closes = tt
stops_before k nil (y ∷ ys) obey apart closes = ap (runs_on (L.Token k)) closes ∙ runs_on-class k close_byte ∙ (goes_on_bracket k).1
stops_before k (token j bs r) ys obey apart closes =
    let b = begins j bs obey.0 in
    subst (λ xs. Stops (L.Token k) ((xs ++ printed r) ++ ys)) (sym b.whole)
    (runs_on-class k b.byte ∙ ap (goes_on k) b.has ∙ sym (clash_goes_on k j) ∙ apart)
stops_before k (form i r) ys obey apart closes = runs_on-class k open_byte ∙ (goes_on_bracket k).0

-- and where a token stopped, they do not
pub apart_from_stops : (k : Kind) (t : Tree) (ys : List ℕ) → TokensObey t → Stops (L.Token k) (printed t ++ ys) → clash (I.Token k) (first_kind t) ≡ false
apart_from_stops k nil ys obey stops = refl
apart_from_stops k (token j bs r) ys obey stops =
    let b = begins j bs obey.0 in
    let s = subst (λ xs. Stops (L.Token k) ((xs ++ printed r) ++ ys)) b.whole stops in
    clash_goes_on k j ∙ ap (goes_on k) (sym b.has) ∙ sym (runs_on-class k b.byte) ∙ s
apart_from_stops k (form i r) ys obey stops = clash_form k

-- only one byte opens a form, and only one closes it
abbrev picked : (t₁ t₂ t₃ t₄ t₅ t₆ t₇ : Bool) → Class
picked t₁ t₂ t₃ t₄ t₅ t₆ t₇ =
    cond t₁ C.Open (cond t₂ C.Close (cond t₃ C.LineEnd (cond t₄ C.Blank (cond t₅ C.Comment (cond t₆ C.Quote (cond t₇ C.Word C.Foreign))))))

-- the tests that picked an open or a close byte
abbrev told : Class → Bool → Bool → Type 0
told C.Open t₁ t₂ = t₁ ≡ true
told C.Close t₁ t₂ = t₂ ≡ true
told C.LineEnd t₁ t₂ = Unit {0}
told C.Blank t₁ t₂ = Unit {0}
told C.Comment t₁ t₂ = Unit {0}
told C.Quote t₁ t₂ = Unit {0}
told C.Word t₁ t₂ = Unit {0}
told C.Foreign t₁ t₂ = Unit {0}

picked_told : (t₁ t₂ t₃ t₄ t₅ t₆ t₇ : Bool) → told (picked t₁ t₂ t₃ t₄ t₅ t₆ t₇) t₁ t₂
picked_told true t₂ t₃ t₄ t₅ t₆ t₇ = refl
picked_told false true t₃ t₄ t₅ t₆ t₇ = refl
picked_told false false true t₄ t₅ t₆ t₇ = tt
picked_told false false false true t₅ t₆ t₇ = tt
picked_told false false false false true t₆ t₇ = tt
picked_told false false false false false true t₇ = tt
picked_told false false false false false false true = tt
picked_told false false false false false false false = tt

class_told : (b : ℕ) → told (class b) (eqb b 0x28) (eqb b 0x29)
class_told b = picked_told (eqb b 0x28) (eqb b 0x29) (eqb b 0x0A) (eqb b 0x20 || eqb b 0x09) (eqb b 0x3B) (eqb b 0x22) (leb 0x21 b && leb b 0x7E)

open_only : (b : ℕ) → class b ≡ C.Open → b ≡ open_byte
open_only b h = eqb-true b 0x28 (subst (λ c. told c (eqb b 0x28) (eqb b 0x29)) h (class_told b))

close_only : (b : ℕ) → class b ≡ C.Close → b ≡ close_byte
close_only b h = eqb-true b 0x29 (subst (λ c. told c (eqb b 0x28) (eqb b 0x29)) h (class_told b))

-- a list of one byte, which is known
single : (y : ℕ) (P : ℕ → Type 0) → ((b : ℕ) → P b → b ≡ y) → (xs : List ℕ) → length xs ≡ 1 → AllByRecursion P xs → xs ≡ y ∷ []
single y P only [] h all = absurd (omega arith)
single y P only (x ∷ []) h all = ap (λ b. b ∷ []) (only x all.0)
single y P only (x ∷ z ∷ xs) h all = absurd (omega arith)

pub open_bytes : (xs : List ℕ) → Rule L.Open xs → xs ≡ open_byte ∷ []
open_bytes xs r = single open_byte (λ b. class b ≡ C.Open) open_only xs r.0 r.1

pub close_bytes : (xs : List ℕ) → Rule L.Close xs → xs ≡ close_byte ∷ []
close_bytes xs r = single close_byte (λ b. class b ≡ C.Close) close_only xs r.0 r.1
