-- Laws of allocation, over the meaning alone. Assumes nothing.
use Rattle.std.specs.Prelude.{◌≡◌, ℕ, ◌+◌, ◌<◌, Bool, true, false, List, length, Some, Option, ◌≢◌, slice_index_or}
use Rattle.allocator.specs.Allocations.{clear, Allocates, Frees}

-- what is available falls by one with an allocation
abbrev pub AllocationTakesOne : Type 0
AllocationTakesOne = (before after : List Bool) (n : ℕ) → Allocates before (Some n) after → clear after + 1 ≡ clear before

-- and rises by one with a free that says yes
abbrev pub FreeGivesOne : Type 0
FreeGivesOne = (before after : List Bool) (n : ℕ) → Frees before n true after → clear after ≡ clear before + 1

-- the capacity never changes
abbrev pub CapacityStays : Type 0
CapacityStays = ((before after : List Bool) (r : Option ℕ) → Allocates before r after → length after ≡ length before) × ((before after : List Bool) (n : ℕ) (r : Bool) → Frees before n r after → length after ≡ length before)

-- a number that is not allocated exists exactly where something is available
abbrev pub AvailableWhereClear : Type 0
AvailableWhereClear = (bits : List Bool) → ((n : ℕ) → n < length bits → slice_index_or bits n false ≡ false → 0 < clear bits) × (0 < clear bits → (n : ℕ) × (n < length bits) × (slice_index_or bits n false ≡ false))

-- two numbers that differ and are not allocated
abbrev pub TwoFree : List Bool → ℕ → ℕ → Type 0
TwoFree bits m n = (m < length bits) × (slice_index_or bits m false ≡ false) × (n < length bits) × (slice_index_or bits n false ≡ false) × (m ≢ n)
