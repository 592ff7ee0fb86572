-- Numbers as the script language writes them: decimal, with no needless leading zero, at most 65,535. Assumes nothing.
--
-- number_bound        above all numbers
-- Stops bs            bs does not begin with a digit
-- Front bs v rest     the number v stands at the front of bs, and rest behind it
-- spaced v bs         a number, a space, and bs
-- numbered ns         numbers, each after a space
use Rattle.std.specs.Prelude.{◌≡◌, ℕ, ◌<◌, false, List, [], ◌∷◌, ◌++◌, decimal}
use Rattle.std.specs.Char.{is_ascii_digit}

abbrev pub number_bound : ℕ
number_bound = 65536

abbrev pub Stops : List ℕ → Type 0
Stops [] = Unit {0}
Stops (c ∷ cs) = is_ascii_digit c ≡ false

abbrev pub Front : List ℕ → ℕ → List ℕ → Type 0
Front bs v rest = (v < number_bound) × (bs ≡ decimal v ++ rest) × Stops rest

-- 32 is a space
abbrev pub spaced : ℕ → List ℕ → List ℕ
spaced v bs = decimal v ++ (32 ∷ bs)

abbrev pub numbered : List ℕ → List ℕ
numbered [] = []
numbered (n ∷ ns) = 32 ∷ (decimal n ++ numbered ns)
