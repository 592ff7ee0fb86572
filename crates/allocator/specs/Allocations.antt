-- What an allocator means: a list of bits, of which bit n says whether n is allocated. Assumes nothing.
--
-- capacity_limit        the most bits
-- clear bits            how many numbers are not allocated
-- Allocates b r a       what allocating may do to the bits b: answer r, and leave the bits a
-- Frees b n r a         what freeing n does to the bits b: answer r, and leave the bits a
-- first_clear bits n    the first number that is not allocated, where the bits are numbered from n
-- behind r n            where a search begins after one that began at n answered r
-- next_fit bits n       the first number from n on that is not allocated, or else the first of all
use Rattle.std.specs.Prelude.{◌≡◌, ℕ, suc, ◌+◌, ◌<◌, Bool, true, false, not, List, [], ◌∷◌, length, drop, Some, None, count_by, Option, slice_index_or, slice_set}
use Rattle.std.specs.Option.{option_or}

abbrev pub capacity_limit : ℕ
capacity_limit = 4096

abbrev pub clear : List Bool → ℕ
clear bits = count_by not bits

abbrev pub Allocates : List Bool → Option ℕ → List Bool → Type 0
Allocates before None after = (clear before ≡ 0) × (after ≡ before)
Allocates before (Some n) after = (n < length before) × (slice_index_or before n false ≡ false) × (after ≡ slice_set before n true)

abbrev pub Frees : List Bool → ℕ → Bool → List Bool → Type 0
Frees before n true after = (slice_index_or before n false ≡ true) × (after ≡ slice_set before n false)
Frees before n false after = (slice_index_or before n false ≡ false) × (after ≡ before)

abbrev pub first_clear : List Bool → ℕ → Option ℕ
first_clear [] n = None
first_clear (true ∷ bits) n = first_clear bits (suc n)
first_clear (false ∷ bits) n = Some n

abbrev pub next_fit : List Bool → ℕ → Option ℕ
next_fit bits n = option_or (first_clear (drop n bits) n) (first_clear bits 0)

abbrev pub behind : Option ℕ → ℕ → ℕ
behind None n = n
behind (Some m) n = m + 1
