-- Numbers that wait on a stack: what taking one, taking a new one and freeing one keep. Assumes nothing.
use Rattle.std.proofs.Common.{◌≡◌, ℕ, ◌+◌, ◌<◌, Bool, true, false, not, ◌≢◌, List, [], ◌∷◌, ◌++◌, length, get_or, set, sym, ap, ◌∙◌, subst, ⊎_elim, length-append, arith}
use Rattle.std.proofs.lemmas.List.{length-set, get_or-set_same, get_or-set_other, get_or_append_left}
use Rattle.std.proofs.Math.Seq.{get_or-append_seam}
use Rattle.std.proofs.lemmas.List.Sums.{count_by-le-length}
use Rattle.std.proofs.lemmas.Bool.{cases_lt, false≢true}
use Rattle.allocator.specs.Allocations.{capacity_limit}
use Rattle.allocator.specs.Stacks.{Waits}
use Rattle.allocator.proofs.Searching.{clear-set, clear_unset, set_within}

-- the items of a stack with one more on top
module _ (xs : List ℕ) (n : ℕ) where
  longer : length (xs ++ n ∷ []) ≡ length xs + 1
  longer = length-append xs (n ∷ [])

  older : (i : ℕ) → i < length xs → get_or (xs ++ n ∷ []) i 0 ≡ get_or xs i 0
  older i lt = get_or_append_left xs (n ∷ []) 0 i lt

  top : get_or (xs ++ n ∷ []) (length xs) 0 ≡ n
  top = get_or-append_seam xs n [] 0

-- the number on top is taken
pub waits_pop : {bs : List Bool} {m : ℕ} (xs : List ℕ) (n : ℕ) → Waits bs (xs ++ n ∷ []) m → Waits (set bs n true) xs m
waits_pop {bs} {m} xs n w =
    let all = longer xs n in
    let last : length xs < length (xs ++ n ∷ []) = omega arith in
    let under : n < m = subst (λ k. k < m) (top xs n) (w.below (length xs) last) in
    let was : get_or bs n false ≡ false = ap (λ k. get_or bs k false) (sym (top xs n)) ∙ w.free (length xs) last in
    let one = clear-set bs n (omega (arith, w.marked)) was in
    let long = length-set bs n true in
    let other : (k : ℕ) → k ≢ n → get_or bs k false ≡ false → get_or (set bs n true) k false ≡ false = (λ k ne e. get_or-set_other bs n k true false ne ∙ e) in
    record {
      within = omega (arith, w.within);
      marked = omega (arith, w.marked);
      counts = omega (arith, w.counts);
      below = λ i lt. subst (λ k. k < m) (older xs n i lt) (w.below i (omega arith));
      free = λ i lt. other (get_or xs i 0)
          (λ e. w.apart i (length xs) lt last (older xs n i lt ∙ e ∙ sym (top xs n)))
          (ap (λ k. get_or bs k false) (sym (older xs n i lt)) ∙ w.free i (omega arith));
      apart = λ i j lt lt' e. w.apart i j lt (omega arith) (older xs n i (omega arith) ∙ e ∙ sym (older xs n j lt'));
      fresh = λ k le. other k (λ e. omega arith) (w.fresh k le);
    }

module _ {bs : List Bool} {xs : List ℕ} {m : ℕ} (w : Waits bs xs m) where
  -- a number that is allocated does not wait, and was allocated before
  not_waiting : (n i : ℕ) → get_or bs n false ≡ true → i < length xs → get_or xs i 0 ≢ n
  not_waiting n i h lt e = false≢true (sym (w.free i lt) ∙ ap (λ k. get_or bs k false) e ∙ h)

  allocated_marked : (n : ℕ) → get_or bs n false ≡ true → n < m
  allocated_marked n h = ⊎_elim (λ lt. lt) (λ past. absurd (false≢true (sym (w.fresh n past) ∙ h))) (cases_lt n m)

  -- there is room for one more where a number is allocated
  pub room_above : (n : ℕ) → get_or bs n false ≡ true → length xs < capacity_limit
  room_above n was =
      omega (arith, clear_unset bs n (set_within bs n was) was, count_by-le-length not (set bs n false), length-set bs n false, w.counts, w.within, w.marked)

  -- a number is freed, and waits on top
  pub waits_push : (n : ℕ) → get_or bs n false ≡ true → Waits (set bs n false) (xs ++ n ∷ []) m
  waits_push n was =
      let inside = set_within bs n was in
      let one = clear_unset bs n inside was in
      let long = length-set bs n false in
      let all = longer xs n in
      let bit_stays : (k : ℕ) → k ≢ n → get_or (set bs n false) k false ≡ get_or bs k false = (λ k ne. get_or-set_other bs n k false false ne) in
      record {
        within = omega (arith, w.within);
        marked = omega (arith, w.marked);
        counts = omega (arith, w.counts);
        below = λ i lt. ⊎_elim
            (λ old. subst (λ k. k < m) (sym (older xs n i old)) (w.below i old))
            (λ new. let e : i ≡ length xs = omega arith in subst (λ j. get_or (xs ++ n ∷ []) j 0 < m) (sym e) (subst (λ k. k < m) (sym (top xs n)) (allocated_marked n was)))
            (cases_lt i (length xs));
        free = λ i lt. ⊎_elim
            (λ old. ap (λ k. get_or (set bs n false) k false) (older xs n i old) ∙ bit_stays (get_or xs i 0) (not_waiting n i was old) ∙ w.free i old)
            (λ new. let e : i ≡ length xs = omega arith in ap (λ j. get_or (set bs n false) (get_or (xs ++ n ∷ []) j 0) false) e ∙ ap (λ k. get_or (set bs n false) k false) (top xs n) ∙ get_or-set_same bs n false false inside)
            (cases_lt i (length xs));
        apart = λ i j lt lt' e. ⊎_elim
            (λ old. w.apart i j lt old (sym (older xs n i (omega arith)) ∙ e ∙ older xs n j old))
            (λ new. let f : j ≡ length xs = omega arith in not_waiting n i was (omega arith) (sym (older xs n i (omega arith)) ∙ e ∙ ap (λ k. get_or (xs ++ n ∷ []) k 0) f ∙ top xs n))
            (cases_lt j (length xs));
        fresh = λ k le. bit_stays k (λ e. omega (arith, allocated_marked n was)) ∙ w.fresh k le;
      }
