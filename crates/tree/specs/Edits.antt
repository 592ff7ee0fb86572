-- Finding and replacing items of a tree. Assumes nothing.
--
-- A path is a list of steps: step s leads into the form that is item s of the present chain.
--
-- Leads path t           each step leads into a form
-- followed path t        how many steps do, before the first that does not
-- chain path t           the chain that the path leads to
-- before path n t        the bytes of the print before item n of that chain; where it has n items, before its end
-- place path n t         how many they are
-- replaced k n new c     the chain c with its n items from number k on replaced by those of new
-- edited path k n new t  the tree t with that done to the chain that the path leads to
use Rattle.std.specs.Prelude.{◌≡◌, ℕ, suc, ◌+◌, true, cond, List, [], ◌∷◌, ◌++◌, length}
use Rattle.tree.specs.Items.{take_items, drop_items, is_form, inner}
use Rattle.tree.specs.Trees.{Tree, form, open_byte, printed, ◌⧺◌}

abbrev pub Leads : List ℕ → Tree → Type 0
Leads [] t = Unit {0}
Leads (s ∷ path) t = (is_form s t ≡ true) × Leads path (inner s t)

abbrev pub followed : List ℕ → Tree → ℕ
followed [] t = 0
followed (s ∷ path) t = cond (is_form s t) (suc (followed path (inner s t))) 0

abbrev pub chain : List ℕ → Tree → Tree
chain [] t = t
chain (s ∷ path) t = chain path (inner s t)

abbrev pub before : List ℕ → ℕ → Tree → List ℕ
before [] n t = printed (take_items n t)
before (s ∷ path) n t = printed (take_items s t) ++ open_byte ∷ before path n (inner s t)

abbrev pub place : List ℕ → ℕ → Tree → ℕ
place path n t = length (before path n t)

abbrev pub replaced : ℕ → ℕ → Tree → Tree → Tree
replaced k n new c = take_items k c ⧺ new ⧺ drop_items (k + n) c

abbrev pub edited : List ℕ → ℕ → ℕ → Tree → Tree → Tree
edited [] k n new t = replaced k n new t
edited (s ∷ path) k n new t = take_items s t ⧺ form (edited path k n new (inner s t)) (drop_items (suc s) t)
