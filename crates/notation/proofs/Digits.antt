-- Numbers at the front of bytes. Assumes nothing.
use Rattle.std.proofs.Common.{◌≡◌, ℕ, suc, ◌+◌, ◌-◌, ◌*◌, ◌%◌, ◌^◌, ◌<◌, ◌≤◌, Bool, true, false, cond, List, [], ◌∷◌, ◌++◌, length, get_or, take, drop, decimal, Result, Ok, Err, sym, refl, ap, ◌∙◌, subst, ⊎_elim, arith, MatchOption}
use Rattle.std.specs.Str.Parse.{digits_value}
use Rattle.std.specs.Char.{is_ascii_digit}
use Rattle.std.specs.List.{prefix_len}
use Rattle.std.specs.Str.{all_ascii_digits}
use Rattle.std.proofs.lemmas.List.{nil_from_length, append-nil, length-append, take-append-drop}
use Rattle.std.proofs.lemmas.Str.Parse.{IsNumeralModel, numerals_by_value, tells_all_ascii_digits, digits_value_short}
use Rattle.std.proofs.lemmas.Fmt.{decimal_digit, decimal-digits_value, digits_decimal, decimal_nonempty, length-decimal-le, decimal_injective, digits_value-decimal, first_decimal}
use Rattle.std.proofs.lemmas.Bool.{cases_lt, and_parts, and_from}
use Rattle.std.proofs.lemmas.Str.{digit_value_digit}
use Rattle.std.proofs.lemmas.Int.Digits.{digits_value_push}
use Rattle.std.specs.Int.{IsInRange}
use Rattle.std.specs.Result.{result_ok, OkIff}
use Rattle.notation.specs.Numbers.{number_bound, Stops, Front, spaced}

own : IsNumeralModel (λ ds. all_ascii_digits ds ≡ true) (digits_value 10)
own = numerals_by_value (λ ds. all_ascii_digits ds ≡ true) tells_all_ascii_digits

-- the run of digits at the front
pub run_digits : (bs : List ℕ) → all_ascii_digits (take (prefix_len is_ascii_digit bs) bs) ≡ true
run_digits [] = refl
run_digits (c ∷ cs) = by (is_ascii_digit c) refl (run_digits cs)
  where
    by : (b : Bool) → is_ascii_digit c ≡ b → all_ascii_digits (take (prefix_len is_ascii_digit cs) cs) ≡ true → all_ascii_digits (take (prefix_len is_ascii_digit (c ∷ cs)) (c ∷ cs)) ≡ true
    by true e all =
        let n = prefix_len is_ascii_digit cs in
        let longer : cond (is_ascii_digit c) (1 + n) 0 ≡ suc n = ap (λ b. cond b (1 + n) 0) e ∙ omega arith in
        subst (λ k. all_ascii_digits (take k (c ∷ cs)) ≡ true) (sym longer) (and_from (is_ascii_digit c) (all_ascii_digits (take n cs)) e all)
    by false e all = ap (λ b. all_ascii_digits (take (cond b (1 + prefix_len is_ascii_digit cs) 0) (c ∷ cs))) e

run_stops : (bs : List ℕ) → Stops (drop (prefix_len is_ascii_digit bs) bs)
run_stops [] = tt
run_stops (c ∷ cs) = by (is_ascii_digit c) refl (run_stops cs)
  where
    by : (b : Bool) → is_ascii_digit c ≡ b → Stops (drop (prefix_len is_ascii_digit cs) cs) → Stops (drop (prefix_len is_ascii_digit (c ∷ cs)) (c ∷ cs))
    by true e stops =
        let n = prefix_len is_ascii_digit cs in
        let longer : cond (is_ascii_digit c) (1 + n) 0 ≡ suc n = ap (λ b. cond b (1 + n) 0) e ∙ omega arith in
        subst (λ k. Stops (drop k (c ∷ cs))) (sym longer) stops
    by false e stops = subst (λ b. Stops (drop (cond b (1 + prefix_len is_ascii_digit cs) 0) (c ∷ cs))) (sym e) e

-- digits and what is behind them are told by the bytes
pub told_apart : (ds es xs ys : List ℕ) → all_ascii_digits ds ≡ true → all_ascii_digits es ≡ true → Stops xs → Stops ys → ds ++ xs ≡ es ++ ys → (ds ≡ es) × (xs ≡ ys)
told_apart [] [] xs ys d e s t h = (refl, h)
told_apart [] (e ∷ es) xs ys d all s t h = absurd (let stop = subst Stops h s in let digit = (and_parts (is_ascii_digit e) (all_ascii_digits es) all).0 in cc)
told_apart (d ∷ ds) [] xs ys all e s t h = absurd (let stop = subst Stops (sym h) t in let digit = (and_parts (is_ascii_digit d) (all_ascii_digits ds) all).0 in cc)
told_apart (d ∷ ds) (e ∷ es) xs ys alld alle s t h =
    let rest = told_apart ds es xs ys (and_parts (is_ascii_digit d) (all_ascii_digits ds) alld).1 (and_parts (is_ascii_digit e) (all_ascii_digits es) alle).1 s t (ap (drop 1) h) in
    (let first = ap (λ bs. get_or bs 0 0) h in let others = rest.0 in cc, rest.1)

module _ (v : ℕ) (small : v < number_bound) where
  wide : v < 2 ^ 64
  wide = omega (arith, small)

  pub written_digits : all_ascii_digits (decimal v) ≡ true
  written_digits = digits_decimal own v wide

  -- a number that begins with a zero is that digit alone
  pub zero_alone : get_or (decimal v) 0 0 ≡ 48 → length (decimal v) ≡ 1
  zero_alone e =
      ⊎_elim
      (λ pos. let first = first_decimal v pos wide in absurd (omega (arith, first, e)))
      (λ none. ap length (decimal_digit v (omega (arith, none))))
      (cases_lt 0 v)

-- no number has no digits, or more than five
module _ (ds : List ℕ) (v : ℕ) (small : v < number_bound) (e : ds ≡ decimal v) where
  pub some_digits : length ds ≤ 0 → ⊥
  some_digits none = absurd (omega (arith, none, ap length e, decimal_nonempty v (wide v small)))

  pub few_digits : 6 ≤ length ds → ⊥
  few_digits many = absurd (omega (arith, many, ap length e, length-decimal-le 5 v (omega arith) (omega (arith, small)) (wide v small)))

-- the value of the digits so far, where they are few enough
abbrev pub ValueOf : List ℕ → ℕ → Type 0
ValueOf ds n = all_ascii_digits ds ≡ true → length ds ≤ 5 → n ≡ digits_value 10 ds

all_before : (ds : List ℕ) (c : ℕ) → all_ascii_digits (ds ++ (c ∷ [])) ≡ true → (all_ascii_digits ds ≡ true) × IsInRange 48 57 c
all_before [] c all = (refl, (tells_all_ascii_digits.parts c [] all).0)
all_before (d ∷ ds) c all =
    let parts = and_parts (is_ascii_digit d) (all_ascii_digits (ds ++ (c ∷ []))) all in
    let others = all_before ds c parts.1 in
    (and_from (is_ascii_digit d) (all_ascii_digits ds) parts.0 others.0, others.1)

pub one_digit_more : (ds : List ℕ) (a c b : ℕ) → ValueOf ds a → b ≡ (a * 10 % 2 ^ 32 + (c + (2 ^ 8 - 48)) % 2 ^ 8) % 2 ^ 32 → ValueOf (ds ++ (c ∷ [])) b
one_digit_more ds a c b so_far e all few =
    let before = all_before ds c all in
    let short : length ds ≤ 4 = omega (arith, length-append ds (c ∷ []), few) in
    let value = so_far before.0 (omega (arith, short)) in
    let small : digits_value 10 ds < 10 ^ 4 = digits_value_short own ds 4 before.0 short in
    omega (arith, e, value, small, before.1, digit_value_digit c before.1, digits_value_push 10 ds c)

-- what digits with no needless zero are read as
pub read_so : {E : Type 0} (ds : List ℕ) (n : ℕ) (r : Result ℕ E) → all_ascii_digits ds ≡ true → 1 ≤ length ds → length ds ≤ 5 → (get_or ds 0 0 ≡ 48 → length ds ≤ 1) → ValueOf ds n → OkIff r (n < number_bound) n → MatchOption (result_ok r) ((v : ℕ) → v < number_bound → ds ≡ decimal v → ⊥) (λ v. (v < number_bound) × (ds ≡ decimal v))
read_so ds n (Ok v) all some few plain value h =
    let same = h.1 ∙ value all few in
    (omega (arith, h.0, h.1), sym (ap decimal same ∙ decimal-digits_value own ds all some (λ e. omega (arith, plain e, some)) (omega (arith, h.0, value all few))))
read_so ds n (Err e) all some few plain value h =
    λ v small written. absurd (let same = value all few ∙ ap (digits_value 10) written ∙ digits_value-decimal own v (wide v small) in h (omega (arith, same, small)))

-- a number and what is behind it are told by the bytes
pub front_unique : (bs : List ℕ) (v w : ℕ) (rest other : List ℕ) → Front bs v rest → Front bs w other → (v ≡ w) × (rest ≡ other)
front_unique bs v w rest other h k =
    let both = told_apart (decimal v) (decimal w) rest other (written_digits v h.0) (written_digits w k.0) h.2 k.2 (sym h.1 ∙ k.1) in
    (decimal_injective v w (wide v h.0) (wide w k.0) both.0, both.1)

-- a number at the front begins with a digit
pub some_digit : (bs : List ℕ) (v : ℕ) (rest : List ℕ) → Front bs v rest → Stops bs → ⊥
some_digit bs v rest h stops =
    let none = told_apart [] (decimal v) bs rest refl (written_digits v h.0) stops h.2 h.1 in
    absurd (omega (arith, ap length none.0, decimal_nonempty v (wide v h.0)))

-- the digits at the front of bytes: they are the number there, or no number is
module _ (bs : List ℕ) (n : ℕ) (run : n ≡ prefix_len is_ascii_digit bs) where
  pub front_digits : all_ascii_digits (take n bs) ≡ true
  front_digits = ap (λ k. all_ascii_digits (take k bs)) run ∙ run_digits bs

  front_stops : Stops (drop n bs)
  front_stops = subst (λ k. Stops (drop k bs)) (sym run) (run_stops bs)

  pub front_number : (v : ℕ) → v < number_bound → take n bs ≡ decimal v → Front bs v (drop n bs)
  front_number v small e = (small, sym (take-append-drop n bs) ∙ ap (λ ds. ds ++ drop n bs) e, front_stops)

  pub no_front : ((v : ℕ) → v < number_bound → take n bs ≡ decimal v → ⊥) → (v : ℕ) (rest : List ℕ) → Front bs v rest → ⊥
  no_front none v rest h =
      none v h.0 (told_apart (take n bs) (decimal v) (drop n bs) rest front_digits (written_digits v h.0) front_stops h.2 (take-append-drop n bs ∙ h.1)).0

-- no space behind the number that is there
pub not_spaced : (bs behind : List ℕ) (v : ℕ) → Front bs v behind → ((rest : List ℕ) → behind ≡ 32 ∷ rest → ⊥) → (w : ℕ) (rest : List ℕ) → w < number_bound → bs ≡ spaced w rest → ⊥
not_spaced bs behind v front none w rest small e = none rest (front_unique bs v w behind (32 ∷ rest) front (small, e, refl)).1

-- no number is there
pub no_whole : (bs : List ℕ) → ((v : ℕ) (rest : List ℕ) → Front bs v rest → ⊥) → (w : ℕ) → w < number_bound → bs ≡ decimal w → ⊥
no_whole bs none w small e = none w [] (small, e ∙ sym (append-nil (decimal w)), tt)

-- the number that is there is all of the bytes, or no number is
module _ (bs behind : List ℕ) (v : ℕ) (front : Front bs v behind) where
  pub is_whole : length behind ≡ 0 → bs ≡ decimal v
  is_whole none = front.1 ∙ ap (λ xs. decimal v ++ xs) (nil_from_length behind none) ∙ append-nil (decimal v)

  pub not_whole : 1 ≤ length behind → (w : ℕ) → w < number_bound → bs ≡ decimal w → ⊥
  not_whole some w small e = absurd (let none = ap length (front_unique bs v w behind [] front (small, e ∙ sym (append-nil (decimal w)), tt)).1 in omega arith)
