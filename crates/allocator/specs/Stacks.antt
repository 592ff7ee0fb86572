-- Numbers that were freed and wait, the last one to be handed out first. Assumes nothing.
--
-- newest xs              the entries of xs, the last of them first
-- rest_of ns             those that wait after one was handed out
-- joined_by n r ns       those that wait after n was freed, where r says whether it was
-- mark_after ns m cap    the smallest never allocated after an allocation
-- most_recent ns m cap   the number freed most recently, or else the smallest never allocated, which is m
-- Waits bits xs m        the numbers xs wait, the last freed last, where m is the smallest never allocated
use Rattle.std.specs.Prelude.{◌≡◌, ℕ, ◌+◌, ◌<◌, ◌≤◌, Bool, true, false, cond, ◌≢◌, List, [], ◌∷◌, length, Some, None, Option, nat_lt, reverse, slice_index, slice_index_or}
use Rattle.allocator.specs.Allocations.{capacity_limit, clear}

abbrev pub newest : List ℕ → List ℕ
newest xs = reverse xs

abbrev pub most_recent : List ℕ → ℕ → ℕ → Option ℕ
most_recent (n ∷ ns) mark capacity = Some n
most_recent [] mark capacity = cond (nat_lt mark capacity) (Some mark) None

abbrev pub rest_of : List ℕ → List ℕ
rest_of [] = []
rest_of (n ∷ ns) = ns

abbrev pub mark_after : List ℕ → ℕ → ℕ → ℕ
mark_after (n ∷ ns) mark capacity = mark
mark_after [] mark capacity = cond (nat_lt mark capacity) (mark + 1) mark

abbrev pub joined_by : ℕ → Bool → List ℕ → List ℕ
joined_by n true ns = n ∷ ns
joined_by n false ns = ns

pub record Waits (bits : List Bool) (xs : List ℕ) (m : ℕ) : Type 0 where
  pub within : length bits ≤ capacity_limit
  pub marked : m ≤ length bits
  pub counts : clear bits + m ≡ length bits + length xs
  -- those that wait were allocated before, are free, and differ
  pub below : (i : ℕ) → i < length xs → slice_index xs i < m
  pub free : (i : ℕ) → i < length xs → slice_index_or bits (slice_index xs i) false ≡ false
  pub apart : (i j : ℕ) → i < j → j < length xs → slice_index xs i ≢ slice_index xs j
  pub fresh : (n : ℕ) → m ≤ n → slice_index_or bits n false ≡ false
