-- The kinds of token, and which bytes each may hold. Assumes nothing.
--
-- number_of k           the number by which formats name the kind k
-- item_number i         the same of an item: a token's own, 6 for a form
-- is c d                the classes c and d are the same
-- continues_class k c   a byte of class c goes on with a token of kind k
-- closes_class k c      a byte of class c is the last of an opened token of kind k
-- continues k b         the same of a byte
-- Delimited o k c bs    bs is a byte of class o, bytes that go on with a token of kind k, and a byte of class c
-- Obeys k bs            bs obeys the rule of the kind k, but for the limit on its length
use Rattle.std.specs.Prelude.{◌≡◌, ℕ, ◌<◌, Bool, true, false, not, ◌&&◌, List, [], ◌∷◌, ◌++◌, length, ◌==◌}
use Rattle.std.specs.List.{AllByRecursion}
use Rattle.syntax.specs.Classes.{class}
use Rattle.syntax.specs.declared.class.Class.{Class}
use Rattle.syntax.specs.declared.class.Class.TheVariants as C
use Rattle.syntax.specs.declared.kind.ItemKind.{ItemKind}
use Rattle.syntax.specs.declared.kind.ItemKind.TheVariants as I
use Rattle.syntax.specs.declared.kind.Kind.{Kind}
use Rattle.syntax.specs.declared.kind.Kind.TheVariants as K

abbrev pub number_of : Kind → ℕ
number_of K.LineEnd = 1
number_of K.Blank = 2
number_of K.Word = 3
number_of K.Quoted = 4
number_of K.Comment = 5

abbrev pub item_number : ItemKind → ℕ
item_number (I.Token k) = number_of k
item_number I.Form = 6

-- classes are told apart by a number
abbrev pub code : Class → ℕ
code C.Open = 0
code C.Close = 1
code C.LineEnd = 2
code C.Blank = 3
code C.Comment = 4
code C.Quote = 5
code C.Word = 6
code C.Foreign = 7

abbrev pub is : Class → Class → Bool
is c d = code c == code d

abbrev pub continues_class : Kind → Class → Bool
continues_class K.LineEnd c = false
continues_class K.Blank c = is c C.Blank
continues_class K.Word c = is c C.Word
continues_class K.Quoted c = not (is c C.Quote) && not (is c C.LineEnd) && not (is c C.Foreign)
continues_class K.Comment c = not (is c C.LineEnd) && not (is c C.Foreign)

abbrev pub closes_class : Kind → Class → Bool
closes_class K.LineEnd c = false
closes_class K.Blank c = false
closes_class K.Word c = false
closes_class K.Quoted c = is c C.Quote
closes_class K.Comment c = is c C.LineEnd

abbrev pub continues : Kind → ℕ → Bool
continues k b = continues_class k (class b)

pub record Delimited (opening : Class) (k : Kind) (closing : Class) (bs : List ℕ) : Type 0 where
  pub front : ℕ
  pub inner : List ℕ
  pub back : ℕ
  pub opens : class front ≡ opening
  pub inside : AllByRecursion (λ b. continues k b ≡ true) inner
  pub closes : class back ≡ closing
  pub whole : bs ≡ front ∷ (inner ++ back ∷ [])

abbrev pub Obeys : Kind → List ℕ → Type 0
Obeys K.LineEnd bs = (length bs ≡ 1) × AllByRecursion (λ b. class b ≡ C.LineEnd) bs
Obeys K.Blank bs = (0 < length bs) × AllByRecursion (λ b. class b ≡ C.Blank) bs
Obeys K.Word bs = (0 < length bs) × AllByRecursion (λ b. class b ≡ C.Word) bs
Obeys K.Quoted bs = Delimited C.Quote K.Quoted C.Quote bs
Obeys K.Comment bs = Delimited C.Comment K.Comment C.LineEnd bs
