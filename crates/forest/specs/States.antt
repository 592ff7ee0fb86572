-- The cells of a forest, and who holds them. Assumes nothing.
--
-- State            the cells of the three pools, as a forest has them
-- ledger st        their counts and slots
-- count st s       the count of the cell that s names
-- spare st s       its holders that are no slots of live cells
-- Covers st        no cell has fewer holders than slots name it
-- Moved before after out into    the holders outside the cells moved so: those of out are spent, those of into are made
-- Kept blank before after        what is live after was live before, and holds what it held
-- Grown blank before after       what was live before is live after, and holds what it held
-- given_up slots r               what the slots of a cell named that has died
-- died r                         1 where a cell has died
use Rattle.std.specs.Prelude.{◌≡◌, ℕ, ◌+◌, ◌-◌, ◌≤◌, true, List, [], ◌∷◌, Some, None, Option}
use Rattle.pool.specs.Cells.{live, at}
use Rattle.pool.specs.Counts.{Ledger, page, entry, mentions, named, slot}
use Rattle.pool.specs.declared.cell.Slot.{Slot}
use Rattle.pool.specs.declared.counted.Counted.{Counted}
use Rattle.forest.specs.declared.cells.Link.{Link}
use Rattle.forest.specs.declared.cells.TokenCell.{TokenCell}
use Rattle.forest.specs.declared.cells.Version.{Version}
use Rattle.forest.specs.declared.forest.Forest.{Forest}
use Rattle.forest.specs.Slots.{links, versions, then, head_slots}

abbrev pub State : Type 0
State = Forest

abbrev pub token_slots : TokenCell → List Slot
token_slots c = []

abbrev pub link_slots : Link → List Slot
link_slots c = head_slots c.head (then links c.tail [])

abbrev pub version_slots : Version → List Slot
version_slots c = then links c.root (then versions c.older [])

abbrev pub ledger : State → Ledger
ledger st = page token_slots st.tokens ∷ page link_slots st.links ∷ page version_slots st.versions ∷ []

abbrev pub count : State → Slot → ℕ
count st s = (entry (ledger st) s).count

abbrev pub spare : State → Slot → ℕ
spare st s = count st s - mentions (ledger st) s

abbrev pub Covers : State → Type 0
Covers st = (s : Slot) → mentions (ledger st) s ≤ count st s

abbrev pub Moved : State → State → (Slot → ℕ) → (Slot → ℕ) → Type 0
Moved before after out into = Covers after × ((s : Slot) → spare after s + out s ≡ spare before s + into s)

abbrev pub Kept : {C : Type 0} → C → List (Counted C) → List (Counted C) → Type 0
Kept blank before after = (n : ℕ) → live (at blank after n) ≡ true → (live (at blank before n) ≡ true) × ((at blank after n).cell ≡ (at blank before n).cell)

abbrev pub given_up : {C : Type 0} → (C → List Slot) → Option C → List Slot
given_up slots None = []
given_up slots (Some c) = slots c

abbrev pub died : {C : Type 0} → Option C → ℕ
died None = 0
died (Some c) = 1

abbrev pub Grown : {C : Type 0} → C → List (Counted C) → List (Counted C) → Type 0
Grown blank before after = (n : ℕ) → live (at blank before n) ≡ true → (live (at blank after n) ≡ true) × ((at blank after n).cell ≡ (at blank before n).cell)

-- what putting a cell of a kind did: a cell that was not live holds it, and the holders of its slots are in them
abbrev pub PutIn : {C : Type 0} → (C → List Slot) → ℕ → State → State → C → Option ℕ → Type 0
PutIn slots p before after c None = after ≡ before
PutIn slots p before after c (Some n) = Moved before after (named (slots c)) (named (slot p n ∷ []))
