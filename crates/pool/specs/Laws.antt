-- The laws of counted cells, over a kind of cell by its slots and its blank value. Assumes nothing.
use Rattle.std.specs.Prelude.{◌≡◌, ℕ, ◌+◌, ◌<◌, true, false, List, [], map, length, replicate, slice_index_or, slice_set}
use Rattle.pool.specs.Cells.{live, vacant, live_number, Fits, Tidy}
use Rattle.pool.specs.Steps.{Step, Does, Runs, taken, given_back}
use Rattle.pool.specs.Counts.{Ledger, page, entry, named, mentions, Holders, Counts, spends, makes}
use Rattle.pool.specs.declared.cell.Slot.{Slot}
use Rattle.pool.specs.declared.counted.Counted.{Counted}

-- a step on pool p keeps the counts, with the holders that it spends and makes; the other pools of the ledger are of any kinds
abbrev pub EachStepKeepsTheCounts : {C : Type 0} → (C → List Slot) → C → Type 0
EachStepKeepsTheCounts {C} slots blank =
    (before after : List (Counted C)) (step : Step C) → Does blank before step after →
    (l : Ledger) (p : ℕ) → p < length l → slice_index_or l p [] ≡ page slots before →
    (holders later : Holders) → ((s : Slot) → later s + spends slots p step s ≡ holders s + makes slots p step s) →
    Counts l holders → Counts (slice_set l p (page slots after)) later

-- what a live cell's slot names is live
abbrev pub NamedCellsAreLive : Type 0
NamedCellsAreLive = (l : Ledger) (holders : Holders) → Counts l holders → (s t : Slot) → live (entry l s) ≡ true → 0 < named (entry l s).cell t → live (entry l t) ≡ true

-- a cell that is not live has no holder, and no live cell's slot names it
abbrev pub NobodyHoldsADeadCell : Type 0
NobodyHoldsADeadCell = (l : Ledger) (holders : Holders) → Counts l holders → (s : Slot) → live (entry l s) ≡ false → (holders s ≡ 0) × (mentions l s ≡ 0)

-- live after + given back = live before + taken
abbrev pub LiveCellsBalance : {C : Type 0} → C → Type 0
LiveCellsBalance {C} blank =
    (before after : List (Counted C)) (steps : List (Step C)) → Runs blank before steps after → live_number after + given_back steps ≡ live_number before + taken steps

-- cells that are not live stay blank
abbrev pub DeadCellsStayBlank : {C : Type 0} → C → Type 0
DeadCellsStayBlank {C} blank = (before after : List (Counted C)) (steps : List (Step C)) → Runs blank before steps after → Tidy blank before → Tidy blank after

-- new pools of any sizes and kinds count, with no holders; and for each, a new allocator of its size fits it, and its cells are blank
abbrev pub NewPoolsCountAndFit : {C : Type 0} → (C → List Slot) → C → Type 0
NewPoolsCountAndFit slots blank =
    ((sizes : List ℕ) → Counts (map (λ n. replicate n (vacant [])) sizes) (λ _. 0))
    × ((n : ℕ) → page slots (replicate n (vacant blank)) ≡ replicate n (vacant []))
    × ((n : ℕ) → Fits (replicate n false) (replicate n (vacant blank)))
    × ((n : ℕ) → Tidy blank (replicate n (vacant blank)))
