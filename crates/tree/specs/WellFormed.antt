-- Which trees are trees of texts. Assumes nothing.
--
-- run_together a b   neighbours of these kinds would be read as one: both words, or both blanks
-- clash a b          the same of an item and the one after it, if there is one
-- nesting t          how deep forms nest
-- TokensObey t       every token obeys the rule of its kind, and has at most 32 bytes
-- Apart t            no two neighbours in one chain run together
-- WellFormed t       both, and forms nest at most 16 deep
-- first_clash t      in the chain itself, the number of the second item of the first pair that runs together
-- clash_from n t     the same, where the items are numbered from n
use Rattle.std.specs.Prelude.{◌≡◌, ℕ, suc, ◌≤◌, max, Bool, false, cond, ◌&&◌, ◌||◌, length, Some, None, Option, ◌==◌}
use Rattle.syntax.specs.Limits.{token_limit, nesting_limit}
use Rattle.syntax.specs.Tokens.{item_number, Obeys}
use Rattle.syntax.specs.declared.kind.ItemKind.{ItemKind}
use Rattle.syntax.specs.declared.kind.ItemKind.TheVariants as I
use Rattle.tree.specs.Items.{first_kind}
use Rattle.tree.specs.Trees.{Tree, nil, token, form}

-- blanks have the number 2, words 3
abbrev pub run_together : ItemKind → ItemKind → Bool
run_together a b = (item_number a == 2 || item_number a == 3) && item_number a == item_number b

abbrev pub clash : ItemKind → Option ItemKind → Bool
clash a None = false
clash a (Some b) = run_together a b

abbrev pub nesting : Tree → ℕ
nesting nil = 0
nesting (token k bs rest) = nesting rest
nesting (form i rest) = max (suc (nesting i)) (nesting rest)

abbrev pub TokensObey : Tree → Type 0
TokensObey nil = Unit {0}
TokensObey (token k bs rest) = Obeys k bs × (length bs ≤ token_limit) × TokensObey rest
TokensObey (form i rest) = TokensObey i × TokensObey rest

abbrev pub Apart : Tree → Type 0
Apart nil = Unit {0}
Apart (token k bs rest) = (clash (I.Token k) (first_kind rest) ≡ false) × Apart rest
Apart (form i rest) = Apart i × Apart rest

pub record WellFormed (t : Tree) : Type 0 where
  pub tokens : TokensObey t
  pub apart : Apart t
  pub shallow : nesting t ≤ nesting_limit

abbrev pub clash_from : ℕ → Tree → Option ℕ
clash_from n nil = None
clash_from n (token k bs rest) = cond (clash (I.Token k) (first_kind rest)) (Some (suc n)) (clash_from (suc n) rest)
clash_from n (form i rest) = clash_from (suc n) rest

abbrev pub first_clash : Tree → Option ℕ
first_clash t = clash_from 0 t
