-- The tree that a chain of cells unfolds to. Assumes nothing.
--
-- link_at st n, token_at st n    the cells, with their counts
-- Spells c k bs                  a token cell has this kind, a length from 1 to 32, and these bytes
-- IsToken st k bs head           the head is a token of this kind with these bytes
-- IsForm P head                  the head is a form, of whose chain P holds
-- Unfolds st first t             the chain from this link on has the tree t, and its links have their widths
use Rattle.std.specs.Prelude.{◌≡◌, ℕ, ◌<◌, ◌≤◌, true, List, length, take, Some, None, Option}
use Rattle.syntax.specs.declared.kind.Kind.{Kind}
use Rattle.tree.specs.Trees.{Tree, nil, token, form, width}
use Rattle.pool.specs.Cells.{live, at}
use Rattle.pool.specs.declared.counted.Counted.{Counted}
use Rattle.forest.specs.declared.cells.Head.{Head}
use Rattle.forest.specs.declared.cells.Head.TheVariants as H
use Rattle.forest.specs.declared.cells.Link.{Link}
use Rattle.forest.specs.declared.cells.TokenCell.{TokenCell}
use Rattle.forest.specs.Blanks.{blank_token, blank_link}
use Rattle.forest.specs.States.{State}

abbrev pub link_at : State → ℕ → Counted Link
link_at st n = at blank_link st.links n

abbrev pub token_at : State → ℕ → Counted TokenCell
token_at st n = at blank_token st.tokens n

abbrev pub Spells : TokenCell → Kind → List ℕ → Type 0
Spells c k bs = (0 < c.length) × (c.length ≤ 32) × (c.kind ≡ k) × (take c.length c.bytes ≡ bs) × (length bs ≡ c.length)

abbrev pub IsToken : State → Kind → List ℕ → Head → Type 0
IsToken st k bs (H.Token n) = (live (token_at st n) ≡ true) × Spells (token_at st n).cell k bs
IsToken st k bs (H.Form n) = ⊥
IsToken st k bs H.EmptyForm = ⊥

abbrev pub IsForm : (Option ℕ → Type 0) → Head → Type 0
IsForm P (H.Token n) = ⊥
IsForm P (H.Form n) = P (Some n)
IsForm P H.EmptyForm = P None

abbrev pub Unfolds : State → Option ℕ → Tree → Type 0
Unfolds st None nil = Unit {0}
Unfolds st (Some n) nil = ⊥
Unfolds st None (token k bs rest) = ⊥
Unfolds st (Some n) (token k bs rest) =
    (live (link_at st n) ≡ true) × ((link_at st n).cell.width ≡ width (token k bs rest)) × IsToken st k bs (link_at st n).cell.head × Unfolds st (link_at st n).cell.tail rest
Unfolds st None (form inner rest) = ⊥
Unfolds st (Some n) (form inner rest) =
    (live (link_at st n) ≡ true) × ((link_at st n).cell.width ≡ width (form inner rest)) × IsForm (λ first. Unfolds st first inner) (link_at st n).cell.head × Unfolds st (link_at st n).cell.tail rest

-- how many bytes a chain's first link says that it prints to
abbrev pub chain_width : State → Option ℕ → ℕ
chain_width st None = 0
chain_width st (Some n) = (link_at st n).cell.width
