-- Whose holds the counts are, over pools that may name cells of one another. Assumes nothing.
--
-- Ledger             for each pool the counts and the slots of its cells, whatever kinds of cell the pools have
-- page slots cs      the page of a pool whose cells tell these slots
-- entry l s          what the ledger has for the cell that s names; a vacant one where there is no such cell
-- named ss s         how many of the slots ss name the cell s
-- mentions l s       how many slots of live cells name it
-- Holders            how many outside holders each cell has
-- Counts l h         each count is the cell's outside holders and the slots of live cells that name it
-- spends, makes      how many outside holders of a cell a step on pool p spends and makes: a put makes one of the new cell and spends
--                    those that are now its slots; a retain makes one; a release spends one, and what a dead cell's slots named
--                    has outside holders again
use Rattle.std.specs.Prelude.{◌≡◌, ℕ, ◌+◌, Bool, cond, ◌&&◌, List, [], ◌∷◌, map, Some, None, sum_by, count_by, ◌==◌, slice_index_or}
use Rattle.pool.specs.Cells.{live, held, at}
use Rattle.pool.specs.Steps.{Step, puts, retains, releases}
use Rattle.pool.specs.declared.cell.Slot.{Slot}
use Rattle.pool.specs.declared.counted.Counted.{Counted}

abbrev pub Page : Type 0
Page = List (Counted (List Slot))

abbrev pub Ledger : Type 0
Ledger = List Page

abbrev pub page : {C : Type 0} → (C → List Slot) → List (Counted C) → Page
page slots cs = map (λ c. held c.count (slots c.cell)) cs

abbrev pub slot : ℕ → ℕ → Slot
slot p n = record { pool = p; index = n }

abbrev pub entry : Ledger → Slot → Counted (List Slot)
entry l s = at [] (slice_index_or l s.pool []) s.index

abbrev pub same : Slot → Slot → Bool
same s t = s.pool == t.pool && s.index == t.index

abbrev pub named : List Slot → Slot → ℕ
named ss s = count_by (same s) ss

abbrev pub tells : Slot → Counted (List Slot) → ℕ
tells s e = cond (live e) (named e.cell s) 0

abbrev pub mentions : Ledger → Slot → ℕ
mentions l s = sum_by (λ es. sum_by (tells s) es) l

abbrev pub Holders : Type 0
Holders = Slot → ℕ

abbrev pub Counts : Ledger → Holders → Type 0
Counts l h = (s : Slot) → (entry l s).count ≡ h s + mentions l s

abbrev pub spends : {C : Type 0} → (C → List Slot) → ℕ → Step C → Slot → ℕ
spends slots p (puts c (Some n)) s = named (slots c) s
spends slots p (puts c None) s = 0
spends slots p (retains n) s = 0
spends slots p (releases n r) s = named (slot p n ∷ []) s

abbrev pub makes : {C : Type 0} → (C → List Slot) → ℕ → Step C → Slot → ℕ
makes slots p (puts c (Some n)) s = named (slot p n ∷ []) s
makes slots p (puts c None) s = 0
makes slots p (retains n) s = named (slot p n ∷ []) s
makes slots p (releases n (Some c)) s = named (slots c) s
makes slots p (releases n None) s = 0
