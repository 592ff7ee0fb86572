-- The pools of a forest, as parts of its state. Assumes nothing.
--
-- IsPool p slots cells with_cells      pool p has these cells of a state, which tell these slots; with_cells puts others in their place
-- token_pool, link_pool, version_pool  the three
use Rattle.std.specs.Prelude.{◌≡◌, ℕ, true, List, [], refl, nat_lt, slice_index_or, slice_set}
use Rattle.pool.specs.Counts.{page}
use Rattle.pool.specs.declared.cell.Slot.{Slot}
use Rattle.pool.specs.declared.counted.Counted.{Counted}
use Rattle.forest.specs.declared.cells.Link.{Link}
use Rattle.forest.specs.declared.cells.TokenCell.{TokenCell}
use Rattle.forest.specs.declared.cells.Version.{Version}
use Rattle.forest.specs.Slots.{tokens, links, versions}
use Rattle.forest.specs.States.{State, ledger, token_slots, link_slots, version_slots}

pub record IsPool {C : Type 0} (p : ℕ) (slots : C → List Slot) (cells : State → List (Counted C)) (with_cells : State → List (Counted C) → State) : Type 0 where
  pub is_one : nat_lt p 3 ≡ true
  pub page_is : (st : State) → slice_index_or (ledger st) p [] ≡ page slots (cells st)
  pub ledger_is : (st : State) (cs : List (Counted C)) → slice_set (ledger st) p (page slots cs) ≡ ledger (with_cells st cs)
  pub same : (st : State) → with_cells st (cells st) ≡ st

abbrev pub with_tokens : State → List (Counted TokenCell) → State
with_tokens st cs = record st { tokens = cs }

abbrev pub with_links : State → List (Counted Link) → State
with_links st cs = record st { links = cs }

abbrev pub with_versions : State → List (Counted Version) → State
with_versions st cs = record st { versions = cs }

pub token_pool : IsPool tokens token_slots (λ st. st.tokens) with_tokens
token_pool = record { is_one = refl; page_is = λ _. refl; ledger_is = λ _ _. refl; same = λ _. refl }

pub link_pool : IsPool links link_slots (λ st. st.links) with_links
link_pool = record { is_one = refl; page_is = λ _. refl; ledger_is = λ _ _. refl; same = λ _. refl }

pub version_pool : IsPool versions version_slots (λ st. st.versions) with_versions
version_pool = record { is_one = refl; page_is = λ _. refl; ledger_is = λ _ _. refl; same = λ _. refl }
