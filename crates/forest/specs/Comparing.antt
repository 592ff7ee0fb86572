-- Chains that are compared. Assumes nothing.
--
-- Alike c d                   two token cells have the same kind and the same bytes
-- HasTree st first            a chain has a tree
-- Compares st left right r    r says whether two chains have the same tree
use Rattle.std.specs.Prelude.{◌≡◌, ℕ, Bool, take, Decides, Option}
use Rattle.tree.specs.Trees.{Tree}
use Rattle.forest.specs.declared.cells.TokenCell.{TokenCell}
use Rattle.forest.specs.States.{State}
use Rattle.forest.specs.Unfolding.{Unfolds}

abbrev pub Alike : TokenCell → TokenCell → Type 0
Alike c d = (c.kind ≡ d.kind) × (c.length ≡ d.length) × (take c.length c.bytes ≡ take d.length d.bytes)

abbrev pub Compares : State → Option ℕ → Option ℕ → Bool → Type 0
Compares st left right r = (t u : Tree) → Unfolds st left t → Unfolds st right u → Decides r (t ≡ u)

abbrev pub HasTree : State → Option ℕ → Type 0
HasTree st first = (t : Tree) × Unfolds st first t
