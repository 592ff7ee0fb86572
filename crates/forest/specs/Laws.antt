-- Laws of forests. Assumes nothing.
use Rattle.std.specs.Prelude.{◌≡◌, ℕ, true, Some}
use Rattle.tree.specs.Trees.{Tree}
use Rattle.pool.specs.Cells.{live}
use Rattle.forest.specs.Blanks.{blank_token, blank_link}
use Rattle.forest.specs.States.{State, Covers, Kept}
use Rattle.forest.specs.Unfolding.{link_at, Unfolds}

-- a chain that is still live has the tree that it had, whatever else was let go
abbrev pub LiveChainsKeepTheirTrees : Type 0
LiveChainsKeepTheirTrees =
    (before after : State) → Covers after → Kept blank_token before.tokens after.tokens → Kept blank_link before.links after.links →
    (n : ℕ) (t : Tree) → live (link_at after n) ≡ true → Unfolds before (Some n) t → Unfolds after (Some n) t

-- a chain has at most one tree
abbrev pub AChainHasOneTree : Type 0
AChainHasOneTree = (st : State) (n : ℕ) (t u : Tree) → Unfolds st (Some n) t → Unfolds st (Some n) u → t ≡ u
