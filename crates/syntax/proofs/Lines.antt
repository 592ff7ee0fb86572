-- Line ends, and the bytes behind the last one, as a text grows by a byte. Assumes nothing.
use Rattle.std.proofs.Common.{◌≡◌, ℕ, zero, suc, ◌+◌, ◌-◌, ◌<◌, ◌≤◌, Bool, true, false, not, List, length, get_or, take, ap, ◌∙◌, subst, ⊎_elim, arith}
use Rattle.std.proofs.lemmas.Bool.{cases_Bool}
use Rattle.std.proofs.lemmas.List.{take_all}
use Rattle.std.proofs.lemmas.List.Sums.{count_by_more_yes, count_by_more_no, suffix_len-take_yes, suffix_len-take_no}
use Rattle.syntax.specs.Positions.{ends_line, line_ends, unfinished}

module _ (xs : List ℕ) (i : ℕ) (h : i < length xs) where
  back : i + 1 - 1 ≡ i
  back = omega arith

  -- the byte before the end of a part that is one longer
  at_back : (t : Bool) → ends_line (get_or xs i 0) ≡ t → not (ends_line (get_or xs (i + 1 - 1) 0)) ≡ not t
  at_back t e = ap (λ k. not (ends_line (get_or xs k 0))) back ∙ ap not e

  pub lines_more_end : ends_line (get_or xs i 0) ≡ true → (line_ends (take (i + 1) xs) ≡ line_ends (take i xs) + 1) × (unfinished (take (i + 1) xs) ≡ 0)
  lines_more_end e = (
    count_by_more_yes ends_line xs i 0 h e,
    suffix_len-take_no (λ b. not (ends_line b)) xs (i + 1) 0 (omega arith) (omega arith) (at_back true e),
  )

  pub lines_more_other : ends_line (get_or xs i 0) ≡ false → (line_ends (take (i + 1) xs) ≡ line_ends (take i xs)) × (unfinished (take (i + 1) xs) ≡ unfinished (take i xs) + 1)
  lines_more_other e = (
    count_by_more_no ends_line xs i 0 h e,
    let more = suffix_len-take_yes (λ b. not (ends_line b)) xs (i + 1) 0 (omega arith) (omega arith) (at_back false e) in
        let same = ap (λ k. unfinished (take k xs)) back in
        omega arith,
  )

  -- a byte is a line end or it is not
  one_byte_more : line_ends (take i xs) + unfinished (take i xs) ≤ i → line_ends (take (i + 1) xs) + unfinished (take (i + 1) xs) ≤ i + 1
  one_byte_more before =
      ⊎_elim
      (λ e. let more = lines_more_end e in omega (arith, before, more.0, more.1))
      (λ e. let more = lines_more_other e in omega (arith, before, more.0, more.1))
      (cases_Bool (ends_line (get_or xs i 0)))

up_to : (xs : List ℕ) (i : ℕ) → i ≤ length xs → line_ends (take i xs) + unfinished (take i xs) ≤ i
up_to xs zero h = omega arith
up_to xs (suc i) h =
    let next : i + 1 ≡ suc i = omega arith in
    subst (λ n. line_ends (take n xs) + unfinished (take n xs) ≤ n) next (one_byte_more xs i (omega (arith, h)) (up_to xs i (omega (arith, h))))

-- line ends and the bytes behind the last one are no more than all bytes
pub line_ends_and_unfinished : (xs : List ℕ) → line_ends xs + unfinished xs ≤ length xs
line_ends_and_unfinished xs =
    subst (λ ys. line_ends ys + unfinished ys ≤ length xs) (take_all (length xs) xs (omega arith)) (up_to xs (length xs) (omega arith))
