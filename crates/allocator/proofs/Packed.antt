-- Bits packed in words: what writing one does to all of them, and the ones of a word. Assumes nothing.
use Rattle.std.proofs.Common.{◌≡◌, ℕ, zero, suc, ◌+◌, ◌-◌, ◌*◌, ◌/◌, ◌%◌, ◌^◌, ◌<◌, ◌≤◌, Bool, true, false, ◌≢◌, List, length, replicate, get_or, sym, refl, ap, ◌∙◌, ⊎_elim, zero-add, div-one, div-le_self, subst, Some, drop, arith}
use Rattle.std.specs.Prelude.{◌==◌, bit_and, bit_or, slice_index, slice_index_or, slice_set}
use Rattle.std.specs.Int.Count.{count_trailing_zeros}
use Rattle.std.specs.Int.{w64, bit_not, trailing_ones, bit_at as int_bit_at}
use Rattle.std.proofs.lemmas.Nat.{div-add-mod', shr-shr}
use Rattle.std.proofs.Math.Nat.{div-eq_of_lt}
use Rattle.std.proofs.lemmas.Nat.Bits.{bit_at-zero, bit_at_set_same, bit_at_set_other, bit_at_clear_same, bit_at_clear_other, bit_at_ones, bit_at-trailing_ones}
use Rattle.std.proofs.lemmas.List.FromFn.{length-map-range_with_len, get_or-map-range_with_len}
use Rattle.std.proofs.lemmas.List.{length-set, length-replicate, get_or-replicate, get_or-set_same, get_or-set_other, get_or_past, ext_get_or}
use Rattle.std.proofs.lemmas.Bool.{cases_eq, cases_lt}
use Rattle.std.specs.Option.{option_or}
use Rattle.std.specs.Bool.{then_some}
use Rattle.allocator.specs.Allocations.{capacity_limit, first_clear}
use Rattle.allocator.specs.Bitmaps.{bit, bit_at, bits}
use Rattle.allocator.proofs.Searching.{first_clear_skip, first_clear_here, first_clear_end}

pub length_bits : (ws : List ℕ) (m : ℕ) → length (bits ws m) ≡ m
unfolding bits
length_bits ws m = length-map-range_with_len (bit_at ws) 0 m

-- an allocator whose bits are packed in words has no more numbers than the limit
pub bounded_bits : (ws : List ℕ) (m : ℕ) → m ≤ capacity_limit → length (bits ws m) ≤ capacity_limit
bounded_bits ws m h = subst (λ n. n ≤ capacity_limit) (sym (length_bits ws m)) h

pub get_d_bits : (ws : List ℕ) (m i : ℕ) → i < m → slice_index_or (bits ws m) i false ≡ bit_at ws i
unfolding bits
get_d_bits ws m i h = get_or-map-range_with_len (bit_at ws) 0 m i i false h (zero-add i)

pub bit_past : (ws : List ℕ) (m n : ℕ) → m ≤ n → slice_index_or (bits ws m) n false ≡ false
bit_past ws m n h = get_or_past (bits ws m) n false (omega (arith, length_bits ws m))

-- a write to the word of bit n that leaves the other bits of that word
pub bits_set : (ws : List ℕ) (n m w : ℕ) (b : Bool) → n / 64 < length ws → n < m → bit w (n % 64) ≡ b → ((j : ℕ) → j < 64 → j ≢ n % 64 → bit w j ≡ bit (slice_index ws (n / 64)) j) → bits (slice_set ws (n / 64) w) m ≡ slice_set (bits ws m) n b
bits_set ws n m w b inside below here others =
    ext_get_or false (bits (slice_set ws (n / 64) w) m) (slice_set (bits ws m) n b) (length_bits (slice_set ws (n / 64) w) m ∙ sym (length-set (bits ws m) n b ∙ length_bits ws m))
    (λ i h.
    let lt : i < m = omega (arith, length_bits (slice_set ws (n / 64) w) m) in
    get_d_bits (slice_set ws (n / 64) w) m i lt
    ∙ ⊎_elim
    (λ e.
    ap (bit_at (slice_set ws (n / 64) w)) e
    ∙ ap (λ x. bit x (n % 64)) (get_or-set_same ws (n / 64) w 0 inside)
    ∙ here
    ∙ sym (get_or-set_same (bits ws m) n b false (omega (arith, length_bits ws m)))
    ∙ ap (λ j. get_or (slice_set (bits ws m) n b) j false) (sym e))
    (λ ne.
    at i ne
    ∙ sym (get_or-set_other (bits ws m) n i b false ne ∙ get_d_bits ws m i lt))
    (cases_eq i n))
  where
    at : (i : ℕ) → i ≢ n → bit_at (slice_set ws (n / 64) w) i ≡ bit_at ws i
    at i ne =
        ⊎_elim
        (λ e.
        let apart : i % 64 ≢ n % 64 = (λ f. ne (sym (div-add-mod' i 64) ∙ (λ j. e j * 64 + f j) ∙ div-add-mod' n 64)) in
        ap (λ q. bit (slice_index (slice_set ws (n / 64) w) q) (i % 64)) e
        ∙ ap (λ x. bit x (i % 64)) (get_or-set_same ws (n / 64) w 0 inside)
        ∙ others (i % 64) (omega arith) apart
        ∙ ap (λ q. bit (slice_index ws q) (i % 64)) (sym e))
        (λ f. ap (λ x. bit x (i % 64)) (get_or-set_other ws (n / 64) (i / 64) w 0 f))
        (cases_eq (i / 64) (n / 64))

-- words of zeros have no bit
zeros : (n : ℕ) → bit_at (replicate 64 0) n ≡ false
zeros n = ap (λ w. bit w (n % 64)) (⊎_elim (λ lt. get_or-replicate 64 (n / 64) 0 0 lt) (λ past. get_or_past (replicate 64 0) (n / 64) 0 past) (cases_lt (n / 64) 64)) ∙ ap (λ x. x == 1) (bit_at-zero (n % 64))

pub bits_none : (m : ℕ) → bits (replicate 64 0) m ≡ replicate m false
bits_none m =
    ext_get_or false (bits (replicate 64 0) m) (replicate m false) (length_bits (replicate 64 0) m ∙ sym (length-replicate m false))
    (λ i h.
    let lt : i < m = omega (arith, length_bits (replicate 64 0) m) in
    get_d_bits (replicate 64 0) m i lt ∙ zeros i ∙ sym (get_or-replicate m i false false lt))

-- bit n of a bitmap, set and cleared in its word
module _ (ws : List ℕ) (cap n : ℕ) (bs : List Bool) (view : bits ws cap ≡ bs) (long : length ws ≡ 64) (few : cap ≤ capacity_limit) (lt : n < length bs) where
  below : n < cap
  below = omega (arith, length_bits ws cap, ap length view)

  pub word_below : n / 64 < 64
  word_below = omega (arith, below)

  abbrev word : ℕ
  word = slice_index ws (n / 64)

  pub set_one : bits (slice_set ws (n / 64) (bit_or word (1 * 2 ^ (n % 64) % 2 ^ 64))) cap ≡ slice_set bs n true
  set_one =
      bits_set ws n cap _ true (omega (arith, word_below)) below (ap (λ x. x == 1) (bit_at_set_same w64 word (n % 64) (omega arith))) (λ j inside other. ap (λ x. x == 1) (bit_at_set_other w64 word (n % 64) (omega arith) j other))
      ∙ ap (λ b. slice_set b n true) view

  pub clear_one : bits (slice_set ws (n / 64) (bit_and word (bit_not w64 (1 * 2 ^ (n % 64) % 2 ^ 64)))) cap ≡ slice_set bs n false
  clear_one =
      bits_set ws n cap _ false (omega (arith, word_below)) below (ap (λ x. x == 1) (bit_at_clear_same w64 word (n % 64) (omega arith))) (λ j inside other. ap (λ x. x == 1) (bit_at_clear_other w64 word (n % 64) (omega arith) j inside other))
      ∙ ap (λ b. slice_set b n false) view

-- the ones of a word from bit k on, and the bit behind them
pub record Run (w k t : ℕ) : Type 0 where
  pub ends : k + t ≤ 64
  pub ones : (j : ℕ) → k ≤ j → j < k + t → bit w j ≡ true
  pub behind : k + t < 64 → bit w (k + t) ≡ false

shifted : (w k i : ℕ) → int_bit_at (w / 2 ^ k) i ≡ int_bit_at w (k + i)
shifted w k i = ap (λ x. x % 2) (shr-shr w k i)

-- only the whole of a full word is all ones
unshifted : (w k : ℕ) → w < 2 ^ 64 → 2 ^ 64 ≤ w / 2 ^ k + 1 → (k ≡ 0) × (w ≡ 2 ^ 64 - 1)
unshifted w zero fits full = (refl, omega (arith, div-one w))
unshifted w (suc k) fits full =
    let e : suc k ≡ 1 + k = omega arith in
    let half : w / 2 ^ 1 ≡ w / 2 = refl in
    absurd (omega (arith, half, ap (λ j. w / 2 ^ j) e, shr-shr w 1 k, div-le_self (w / 2 ^ 1) (2 ^ k)))

pub run_of : (w k : ℕ) → w < 2 ^ 64 → k < 64 → Run w k (trailing_ones w64 (w / 2 ^ k))
unfolding count_trailing_zeros
run_of w k fits low =
    ⊎_elim
    (λ lt.
    let r = bit_at-trailing_ones w64 (w / 2 ^ k) lt in
    let t = trailing_ones w64 (w / 2 ^ k) in
    let above : (i : ℕ) → k + i ≡ 64 → int_bit_at (w / 2 ^ k) i ≡ 0 = (λ i e. shifted w k i ∙ ap (int_bit_at w) e ∙ ap (λ x. x % 2) (div-eq_of_lt fits)) in
    record {
      ends = ⊎_elim (λ past. absurd (omega (arith, r.2 (64 - k) (omega arith), above (64 - k) (omega arith)))) (λ le. le) (cases_lt 64 (k + t));
      ones = λ j from to. let e : j ≡ k + (j - k) = omega arith in ap (λ x. x == 1) (ap (int_bit_at w) e ∙ sym (shifted w k (j - k)) ∙ r.2 (j - k) (omega arith));
      behind = λ inside. ap (λ x. x == 1) (sym (shifted w k t) ∙ r.1);
    })
    (λ full.
    let whole = unshifted w k fits full in
    let all : trailing_ones w64 (w / 2 ^ k) ≡ 64 = (λ i. trailing_ones w64 (whole.1 i / 2 ^ whole.0 i)) in
    record {
      ends = omega (arith, all, whole.0);
      ones = λ j from to. ap (λ x. x == 1) (ap (λ x. int_bit_at x j) whole.1 ∙ bit_at_ones 64 j (omega (arith, all, whole.0)));
      behind = λ inside. absurd (omega (arith, all));
    })
    (cases_lt (w / 2 ^ k + 1) (2 ^ 64))

-- behind the bits of a full word
pub full_word : (ws : List ℕ) (cap word low : ℕ) → slice_index ws word ≡ 2 ^ 64 - 1 → word * 64 ≤ low → low ≤ word * 64 + 64 → first_clear (drop low (bits ws cap)) low ≡ first_clear (drop (word * 64 + 64) (bits ws cap)) (word * 64 + 64)
full_word ws cap word low full from to =
    let e : low + (word * 64 + 64 - low) ≡ word * 64 + 64 = omega arith in
    first_clear_skip (bits ws cap) low (word * 64 + 64 - low) (λ i above below inside. get_d_bits ws cap i (omega (arith, length_bits ws cap)) ∙ one i above (omega arith))
    ∙ ap (λ n. first_clear (drop n (bits ws cap)) n) e
  where
    one : (i : ℕ) → low ≤ i → i < word * 64 + 64 → bit_at ws i ≡ true
    one i above below =
        let here : i / 64 ≡ word = omega arith in
        ap (λ q. bit (slice_index ws q) (i % 64)) here ∙ ap (λ w. bit w (i % 64)) full ∙ ap (λ x. x == 1) (bit_at_ones 64 (i % 64) (omega arith))

-- the bits of one word from `low` on: those that are set are passed over
module _ (ws : List ℕ) (cap word low t : ℕ) (within : word < 64) (fits : slice_index ws word < 2 ^ 64) (here : low / 64 ≡ word) (is : t ≡ trailing_ones w64 (slice_index ws word / 2 ^ (low % 64))) where
  run : Run (slice_index ws word) (low % 64) t
  run = subst (Run (slice_index ws word) (low % 64)) (sym is) (run_of (slice_index ws word) (low % 64) fits (omega arith))

  in_word : (i : ℕ) → low ≤ i → i < low + t → bit_at ws i ≡ true
  in_word i from to =
      let e : i / 64 ≡ word = omega (arith, run.ends) in
      ap (λ q. bit (slice_index ws q) (i % 64)) e ∙ run.ones (i % 64) (omega arith) (omega (arith, run.ends))

  passed_ones : first_clear (drop low (bits ws cap)) low ≡ first_clear (drop (low + t) (bits ws cap)) (low + t)
  passed_ones = first_clear_skip (bits ws cap) low t (λ i from to inside. get_d_bits ws cap i (omega (arith, length_bits ws cap)) ∙ in_word i from to)

  found_in_word : (low + t) / 64 ≡ word → low + t < cap → first_clear (drop low (bits ws cap)) low ≡ Some (low + t)
  found_in_word inside below =
      passed_ones ∙ first_clear_here (bits ws cap) (low + t) (omega (arith, length_bits ws cap))
      (get_d_bits ws cap (low + t) below ∙ ap (λ q. bit (slice_index ws q) ((low + t) % 64)) inside ∙ (let e : (low + t) % 64 ≡ low % 64 + t = omega arith in ap (bit (slice_index ws word)) e ∙ run.behind (omega arith)))

  none_in_word : ((low + t) / 64 ≡ word → cap ≤ low + t) → first_clear (drop low (bits ws cap)) low ≡ first_clear (drop (word * 64 + 64) (bits ws cap)) (word * 64 + 64)
  none_in_word past =
      passed_ones ∙ ⊎_elim
      (λ inside. first_clear_end (bits ws cap) (low + t) (omega (arith, length_bits ws cap, past inside)) ∙ sym (first_clear_end (bits ws cap) (word * 64 + 64) (omega (arith, length_bits ws cap, past inside))))
      (λ out. let e : low + t ≡ word * 64 + 64 = omega (arith, run.ends) in ap (λ n. first_clear (drop n (bits ws cap)) n) e)
      (cases_eq ((low + t) / 64) word)

  -- what is found from `low` on is what the word has, or else what is found behind the word
  pub in_word_or_behind : (b : Bool) → (b ≡ true → ((low + t) / 64 ≡ word) × (low + t < cap)) → (b ≡ false → (low + t) / 64 ≡ word → cap ≤ low + t) → first_clear (drop low (bits ws cap)) low ≡ option_or (then_some b (low + t)) (first_clear (drop (word * 64 + 64) (bits ws cap)) (word * 64 + 64))
  in_word_or_behind true here past = found_in_word (here refl).0 (here refl).1
  in_word_or_behind false here past = none_in_word (past refl)
