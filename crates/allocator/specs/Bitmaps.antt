-- Bits packed in words of 64. Assumes nothing.
--
-- bit w k         bit k of the word w
-- bit_at ws n     bit n of the words ws
-- bits ws n       the first n bits of the words ws
use Rattle.std.specs.Prelude.{ℕ, ◌/◌, ◌%◌, ◌^◌, Bool, List, map, ◌==◌, slice_index}
use Rattle.std.specs.List.{range_with_len}

abbrev pub bit : ℕ → ℕ → Bool
bit w k = w / 2 ^ k % 2 == 1

abbrev pub bit_at : List ℕ → ℕ → Bool
bit_at ws n = bit (slice_index ws (n / 64)) (n % 64)

unfoldable pub bits : List ℕ → ℕ → List Bool
bits ws n = map (bit_at ws) (range_with_len 0 n)
