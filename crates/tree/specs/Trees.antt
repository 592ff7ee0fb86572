-- The tree of a chain, and how it is printed. Assumes nothing.
--
-- Tree        a chain: empty, or a first item (a token with its kind and bytes, or a form with the tree of its chain)
--             and the tree of the items after it
-- printed t   the bytes of the chain
-- width t     how many they are
-- t ⧺ u       the items of t, then those of u
use Rattle.std.specs.Prelude.{ℕ, List, [], ◌∷◌, ◌++◌, length}
use Rattle.syntax.specs.declared.kind.Kind.{Kind}

infixr 20 ◌⧺◌
pub data Tree : Type 0 where
  nil : Tree
  token : Kind → List ℕ → Tree → Tree
  form : Tree → Tree → Tree

abbrev pub open_byte : ℕ
open_byte = 0x28

abbrev pub close_byte : ℕ
close_byte = 0x29

abbrev pub printed : Tree → List ℕ
printed nil = []
printed (token k bs rest) = bs ++ printed rest
printed (form inner rest) = open_byte ∷ (printed inner ++ close_byte ∷ printed rest)

abbrev pub width : Tree → ℕ
width t = length (printed t)

abbrev pub ◌⧺◌ : Tree → Tree → Tree
nil ⧺ u = u
token k bs rest ⧺ u = token k bs (rest ⧺ u)
form inner rest ⧺ u = form inner (rest ⧺ u)
