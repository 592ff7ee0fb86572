-- Counted cells. Assumes nothing.
--
-- live c             the cell has a holder
-- held k c           a cell c with k holders
-- vacant blank       a cell that nobody holds
-- at blank cs n      cell n; a vacant one past the end
-- contents c         what a live cell holds; nothing for one that is not live
-- live_number cs     how many cells are live
-- Fits bits cs       an allocator with these bits fits the cells: it has as many numbers, and has allocated exactly the live ones
-- Puts blank before c r after       what putting c does to the cells: the answer r, and the cells after
-- Retains blank before n after      what retaining cell n does
-- Releases blank before n r after   what releasing cell n does: the cell where it dies, and the cells after
-- Tidy blank cs      cells that are not live are blank
use Rattle.std.specs.Prelude.{◌≡◌, ℕ, ◌+◌, ◌-◌, ◌<◌, Bool, true, false, List, map, length, Some, None, count_by, Option, nat_lt, slice_index_or, slice_set}
use Rattle.std.specs.Bool.{then_some}
use Rattle.pool.specs.declared.counted.Counted.{Counted}

abbrev pub live : {C : Type 0} → Counted C → Bool
live c = nat_lt 0 c.count

abbrev pub held : {C : Type 0} → ℕ → C → Counted C
held k c = record { count = k; cell = c }

abbrev pub vacant : {C : Type 0} → C → Counted C
vacant blank = held 0 blank

abbrev pub at : {C : Type 0} → C → List (Counted C) → ℕ → Counted C
at blank cs n = slice_index_or cs n (vacant blank)

abbrev pub contents : {C : Type 0} → Counted C → Option C
contents c = then_some (live c) c.cell

abbrev pub live_number : {C : Type 0} → List (Counted C) → ℕ
live_number cs = count_by live cs

abbrev pub Fits : {C : Type 0} → List Bool → List (Counted C) → Type 0
Fits bits cs = bits ≡ map live cs

abbrev pub Puts : {C : Type 0} → C → List (Counted C) → C → Option ℕ → List (Counted C) → Type 0
Puts blank before c None after = (live_number before ≡ length before) × (after ≡ before)
Puts blank before c (Some n) after = (n < length before) × (live (at blank before n) ≡ false) × (after ≡ slice_set before n (held 1 c))

abbrev pub Retains : {C : Type 0} → C → List (Counted C) → ℕ → List (Counted C) → Type 0
Retains blank before n after = (live (at blank before n) ≡ true) × (after ≡ slice_set before n (held ((at blank before n).count + 1) (at blank before n).cell))

abbrev pub Releases : {C : Type 0} → C → List (Counted C) → ℕ → Option C → List (Counted C) → Type 0
Releases blank before n None after = (1 < (at blank before n).count) × (after ≡ slice_set before n (held ((at blank before n).count - 1) (at blank before n).cell))
Releases blank before n (Some c) after = (at blank before n ≡ held 1 c) × (after ≡ slice_set before n (vacant blank))

abbrev pub Tidy : {C : Type 0} → C → List (Counted C) → Type 0
Tidy blank cs = (n : ℕ) → live (at blank cs n) ≡ false → at blank cs n ≡ vacant blank
