-- A chain that is printed. Assumes nothing.
--
-- Room st first at buffer            the chain has a tree, and its print goes into the buffer at this place
-- Prints st first at before r after  the print of the chain's tree was put at this place, up to r; the rest of the buffer is as it was
use Rattle.std.specs.Prelude.{◌≡◌, ℕ, ◌+◌, ◌≤◌, List, ◌++◌, length, take, drop, Option}
use Rattle.tree.specs.Trees.{Tree, printed, width}
use Rattle.forest.specs.States.{State}
use Rattle.forest.specs.Unfolding.{Unfolds}

abbrev pub Room : State → Option ℕ → ℕ → List ℕ → Type 0
Room st first at buffer = (t : Tree) × Unfolds st first t × (at + width t ≤ length buffer)

abbrev pub Prints : State → Option ℕ → ℕ → List ℕ → ℕ → List ℕ → Type 0
Prints st first at before r after =
    (t : Tree) → Unfolds st first t → (r ≡ at + width t) × (take r after ≡ take at before ++ printed t) × (drop r after ≡ drop r before) × (length after ≡ length before)
