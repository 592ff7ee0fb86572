-- The items of a chain, by their numbers from 0. Assumes nothing.
--
-- kinds t          the kinds of the chain's own items
-- top_items t      how many they are
-- first_kind t     the first of them, if there is one
-- last_kind t      the last of them, if there is one
-- take_items n t   its first n items
-- drop_items n t   the items after those
-- item n t         item n alone, as a chain of one; empty where there is none
-- is_form n t      item n is a form
-- inner n t        the chain of item n, where that is a form; else empty
use Rattle.std.specs.Prelude.{ℕ, zero, suc, Bool, true, false, List, [], ◌∷◌, length, Option}
use Rattle.syntax.specs.Census.{first_of, last_of}
use Rattle.syntax.specs.declared.kind.ItemKind.{ItemKind}
use Rattle.syntax.specs.declared.kind.ItemKind.TheVariants as I
use Rattle.tree.specs.Trees.{Tree, nil, token, form}

abbrev pub kinds : Tree → List ItemKind
kinds nil = []
kinds (token k bs rest) = I.Token k ∷ kinds rest
kinds (form i rest) = I.Form ∷ kinds rest

abbrev pub top_items : Tree → ℕ
top_items t = length (kinds t)

abbrev pub first_kind : Tree → Option ItemKind
first_kind t = first_of (kinds t)

abbrev pub last_kind : Tree → Option ItemKind
last_kind t = last_of (kinds t)

abbrev pub take_items : ℕ → Tree → Tree
take_items zero t = nil
take_items (suc n) nil = nil
take_items (suc n) (token k bs rest) = token k bs (take_items n rest)
take_items (suc n) (form i rest) = form i (take_items n rest)

abbrev pub drop_items : ℕ → Tree → Tree
drop_items zero t = t
drop_items (suc n) nil = nil
drop_items (suc n) (token k bs rest) = drop_items n rest
drop_items (suc n) (form i rest) = drop_items n rest

abbrev pub item : ℕ → Tree → Tree
item n t = take_items 1 (drop_items n t)

abbrev pub is_form : ℕ → Tree → Bool
is_form n nil = false
is_form zero (token k bs rest) = false
is_form zero (form i rest) = true
is_form (suc n) (token k bs rest) = is_form n rest
is_form (suc n) (form i rest) = is_form n rest

abbrev pub inner : ℕ → Tree → Tree
inner n nil = nil
inner zero (token k bs rest) = nil
inner zero (form i rest) = i
inner (suc n) (token k bs rest) = inner n rest
inner (suc n) (form i rest) = inner n rest
