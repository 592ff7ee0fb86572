-- A stack in an array: its length, a push and a pop. Assumes nothing.
use Rattle.std.proofs.Common.{◌≡◌, ℕ, zero, suc, ◌+◌, ◌<◌, ◌≤◌, ◌≢◌, List, ◌∷◌, length, set, refl, ap, ◌∙◌, le_refl, add-one, arith, get_or-set_other, get_or-set_same}
use Rattle.syntax.specs.OpenForms.{newest}

pub length-newest : (xs : List ℕ) (n : ℕ) → length (newest xs n) ≡ n
length-newest xs zero = refl
length-newest xs (suc n) = ap suc (length-newest xs n)

-- a write at m leaves the entries below it
pub newest-set : (xs : List ℕ) (n m y : ℕ) → n ≤ m → newest (set xs m y) n ≡ newest xs n
newest-set xs zero m y h = refl
newest-set xs (suc n) m y h =
    let ne : n ≢ m = omega arith in
    (λ i. get_or-set_other xs m n y 0 ne i ∷ newest-set xs n m y (omega arith) i)

pub newest_push : (xs : List ℕ) (n y : ℕ) → n < length xs → newest (set xs n y) (n + 1) ≡ y ∷ newest xs n
newest_push xs n y h =
    ap (newest (set xs n y)) (add-one n) ∙ (λ i. get_or-set_same xs n y 0 h i ∷ newest-set xs n n y (le_refl n) i)
