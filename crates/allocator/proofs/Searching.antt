-- The first clear bit, and how many there are. Assumes nothing.
use Rattle.std.proofs.Common.{◌≡◌, ℕ, zero, suc, ◌+◌, ◌-◌, ◌<◌, ◌≤◌, Bool, true, false, cond, not, ◌⊎◌, List, [], ◌∷◌, length, get_or, drop, set, replicate, Some, None, Option, sym, refl, ap, ◌∙◌, inl, inr, ⊎_elim, add-one, arith}
use Rattle.std.proofs.lemmas.List.{at_drop_all, at_drop_more, length-drop, get_or-drop, get_or_past}
use Rattle.std.proofs.lemmas.List.Sums.{sum_by-cons, sum_by-set}
use Rattle.std.proofs.lemmas.Bool.{cases_lt, false≢true}
use Rattle.std.specs.Option.{option_or}
use Rattle.allocator.specs.Allocations.{clear, first_clear, next_fit}

-- a number that is found lies within, and was clear
pub record ClearAt (bs : List Bool) (n m : ℕ) : Type 0 where
  pub from : n ≤ m
  pub within : m < n + length bs
  pub was : get_or bs (m - n) false ≡ false

found_clear : (bs : List Bool) (n m : ℕ) → first_clear bs n ≡ Some m → ClearAt bs n m
found_clear [] n m h = absurd (let z : ◌≡◌ {A = ℕ} 0 1 = cc in omega arith)
found_clear (false ∷ bs) n m h =
    let e : n ≡ m = cc in
    let zero_on : m - n ≡ 0 = omega arith in
    record { from = omega arith; within = omega arith; was = ap (λ i. get_or (false ∷ bs) i false) zero_on }
found_clear (true ∷ bs) n m h =
    let r = found_clear bs (suc n) m h in
    let low = r.from in
    let high = r.within in
    let next : m - n ≡ suc (m - suc n) = omega arith in
    record { from = omega arith; within = omega arith; was = ap (λ i. get_or (true ∷ bs) i false) next ∙ r.was }

pub found_within : (bs : List Bool) (n m : ℕ) → first_clear (drop n bs) n ≡ Some m → n ≤ length bs → (m < length bs) × (get_or bs m false ≡ false)
found_within bs n m h fits =
    let r = found_clear (drop n bs) n m h in
    let low = r.from in
    let high = r.within in
    let long = length-drop n bs in
    let back : n + (m - n) ≡ m = omega arith in
    (omega arith, ap (λ i. get_or bs i false) (sym back) ∙ sym (get_or-drop n bs (m - n) false) ∙ r.was)

clear-cons : (b : Bool) (bs : List Bool) → clear (b ∷ bs) ≡ cond (not b) 1 0 + clear bs
clear-cons b bs = sum_by-cons (λ x. cond (not x) 1 0) b bs

-- where none is found all are allocated
pub none_clear : (bs : List Bool) (n : ℕ) → first_clear bs n ≡ None → clear bs ≡ 0
none_clear [] n h = refl
none_clear (false ∷ bs) n h = absurd (let z : ◌≡◌ {A = ℕ} 0 1 = cc in omega arith)
none_clear (true ∷ bs) n h = omega (arith, clear-cons true bs, none_clear bs (suc n) h)

-- one more, or one less
pub clear-set : (bs : List Bool) (n : ℕ) → n < length bs → get_or bs n false ≡ false → clear (set bs n true) + 1 ≡ clear bs
clear-set bs n h e =
    let now : cond {A = ℕ} (not (get_or bs n false)) 1 0 ≡ 1 = ap (λ b. cond (not b) 1 0) e in
    omega (arith, sum_by-set (λ x. cond (not x) 1 0) bs n true false h)

pub clear_unset : (bs : List Bool) (n : ℕ) → n < length bs → get_or bs n false ≡ true → clear (set bs n false) ≡ clear bs + 1
clear_unset bs n h e =
    let now : cond {A = ℕ} (not (get_or bs n false)) 1 0 ≡ 0 = ap (λ b. cond (not b) 1 0) e in
    omega (arith, sum_by-set (λ x. cond (not x) 1 0) bs n false false h)

-- one bit that is set is passed over
pub first_clear_more : (bs : List Bool) (n : ℕ) → n < length bs → get_or bs n false ≡ true → first_clear (drop n bs) n ≡ first_clear (drop (n + 1) bs) (n + 1)
first_clear_more bs n h e =
    at_drop_more (λ xs. first_clear xs n) bs n false h
    ∙ ap (λ b. first_clear (b ∷ drop (n + 1) bs) n) e
    ∙ ap (first_clear (drop (n + 1) bs)) (sym (add-one n))

pub first_clear_here : (bs : List Bool) (n : ℕ) → n < length bs → get_or bs n false ≡ false → first_clear (drop n bs) n ≡ Some n
first_clear_here bs n h e = at_drop_more (λ xs. first_clear xs n) bs n false h ∙ ap (λ b. first_clear (b ∷ drop (n + 1) bs) n) e

pub first_clear_end : (bs : List Bool) (n : ℕ) → length bs ≤ n → first_clear (drop n bs) n ≡ None
first_clear_end bs n h = at_drop_all (λ xs. first_clear xs n) bs n h

-- k bits that are set, as far as there are any, are passed over
pub first_clear_skip : (bs : List Bool) (n k : ℕ) → ((i : ℕ) → n ≤ i → i < n + k → i < length bs → get_or bs i false ≡ true) → first_clear (drop n bs) n ≡ first_clear (drop (n + k) bs) (n + k)
first_clear_skip bs n zero all = let e : n ≡ n + 0 = omega arith in ap (λ m. first_clear (drop m bs) m) e
first_clear_skip bs n (suc k) all =
    let e : n + k + 1 ≡ n + suc k = omega arith in
    first_clear_skip bs n k (λ i low high within. all i low (omega arith) within)
    ∙ ⊎_elim
    (λ within. first_clear_more bs (n + k) within (all (n + k) (omega arith) (omega arith) within))
    (λ past. first_clear_end bs (n + k) past ∙ sym (first_clear_end bs (n + k + 1) (omega arith)))
    (cases_lt (n + k) (length bs))
    ∙ ap (λ m. first_clear (drop m bs) m) e

-- what a search that goes round finds
next_parts : (o : Option ℕ) (bs : List Bool) (n m : ℕ) → first_clear (drop n bs) n ≡ o → next_fit bs n ≡ Some m → (first_clear (drop n bs) n ≡ Some m) ⊎ (first_clear (drop 0 bs) 0 ≡ Some m)
next_parts (Some k) bs n m e h = inl (e ∙ sym (ap (λ o. option_or o (first_clear bs 0)) e) ∙ h)
next_parts None bs n m e h = inr (sym (ap (λ o. option_or o (first_clear bs 0)) e) ∙ h)

pub next_fit_some : (bs : List Bool) (n m : ℕ) → n ≤ length bs → next_fit bs n ≡ Some m → (m < length bs) × (get_or bs m false ≡ false)
next_fit_some bs n m fits h = ⊎_elim (λ e. found_within bs n m e fits) (λ e. found_within bs 0 m e (omega arith)) (next_parts (first_clear (drop n bs) n) bs n m refl h)

pub next_fit_none : (bs : List Bool) (n : ℕ) → next_fit bs n ≡ None → clear bs ≡ 0
next_fit_none bs n h = by (first_clear (drop n bs) n) h
  where
    by : (o : Option ℕ) → option_or o (first_clear bs 0) ≡ None → clear bs ≡ 0
    by (Some k) h = absurd (let z : ◌≡◌ {A = ℕ} 0 1 = cc in omega arith)
    by None h = none_clear bs 0 h

-- an allocated number is one of the bits
pub set_within : (bs : List Bool) (n : ℕ) → get_or bs n false ≡ true → n < length bs
set_within bs n h = ⊎_elim (λ lt. lt) (λ past. absurd (false≢true (sym (get_or_past bs n false past) ∙ h))) (cases_lt n (length bs))

pub clear_none : (m : ℕ) → clear (replicate m false) ≡ m
clear_none zero = refl
clear_none (suc m) = clear-cons false (replicate m false) ∙ (let e = clear_none m in omega arith)
