-- What is done to one pool, step by step. Assumes nothing.
--
-- Step              a put of a cell, with its answer; a retain; a release, with its answer
-- Does before s after      the step s leads from the cells before to the cells after, as the pool's contracts say
-- Runs before ss after     so do the steps ss, in their order
-- taken ss, given_back ss  how many numbers the steps took from the allocator, and gave back
use Rattle.std.specs.Prelude.{◌≡◌, ℕ, List, [], ◌∷◌, Some, None, sum_by, Option}
use Rattle.pool.specs.Cells.{Puts, Retains, Releases}
use Rattle.pool.specs.declared.counted.Counted.{Counted}

pub data Step (C : Type 0) : Type 0 where
  puts : C → Option ℕ → Step C
  retains : ℕ → Step C
  releases : ℕ → Option C → Step C

abbrev pub Does : {C : Type 0} → C → List (Counted C) → Step C → List (Counted C) → Type 0
Does blank before (puts c r) after = Puts blank before c r after
Does blank before (retains n) after = Retains blank before n after
Does blank before (releases n r) after = Releases blank before n r after

abbrev pub Runs : {C : Type 0} → C → List (Counted C) → List (Step C) → List (Counted C) → Type 0
Runs blank before [] after = after ≡ before
Runs {C} blank before (s ∷ ss) after = (between : List (Counted C)) × Does blank before s between × Runs blank between ss after

abbrev pub takes : {C : Type 0} → Step C → ℕ
takes (puts c (Some n)) = 1
takes (puts c None) = 0
takes (retains n) = 0
takes (releases n r) = 0

abbrev pub gives_back : {C : Type 0} → Step C → ℕ
gives_back (puts c r) = 0
gives_back (retains n) = 0
gives_back (releases n (Some c)) = 1
gives_back (releases n None) = 0

abbrev pub taken : {C : Type 0} → List (Step C) → ℕ
taken ss = sum_by takes ss

abbrev pub given_back : {C : Type 0} → List (Step C) → ℕ
given_back ss = sum_by gives_back ss
