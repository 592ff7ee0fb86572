-- Steps of a path, read one after the other. Assumes nothing.
use Rattle.std.proofs.Common.{◌≡◌, ℕ, ◌+◌, ◌<◌, ◌≤◌, List, [], ◌∷◌, ◌++◌, length, get_or, drop, decimal, sym, refl, ap, ◌∙◌, subst, arith}
use Rattle.std.specs.List.{AllByRecursion}
use Rattle.std.proofs.lemmas.List.{append_assoc, length-append}
use Rattle.notation.specs.Numbers.{number_bound, Stops, Front, spaced}
use Rattle.protocol.specs.Commands.{Steps, behind, bracketed}
use Rattle.notation.proofs.Digits.{some_digit, front_unique}

all_mid : (P : ℕ → Type 0) (xs ys : List ℕ) (y : ℕ) → AllByRecursion P (xs ++ (y ∷ ys)) → P y
all_mid P [] ys y h = h.0
all_mid P (x ∷ xs) ys y h = all_mid P xs ys y h.1

pub all_push : (P : ℕ → Type 0) (xs : List ℕ) (y : ℕ) → AllByRecursion P xs → P y → AllByRecursion P (xs ++ (y ∷ []))
all_push P [] y h k = (k, tt)
all_push P (x ∷ xs) y h k = (h.0, all_push P xs y h.1 k)

behind_stops : (vs rest : List ℕ) → Stops (behind vs rest)
behind_stops [] rest = refl
behind_stops (v ∷ vs) rest = refl

-- what is left of a path whose steps so far are done: it makes a path with them, and every path goes on so
pub record Reading (inside done left : List ℕ) : Type 0 where
  pub makes : (w : ℕ) (ws rest : List ℕ) → left ≡ decimal w ++ behind ws rest → 40 ∷ inside ≡ bracketed (done ++ (w ∷ ws)) rest
  pub goes_on : (v : ℕ) (vs rest : List ℕ) → Steps (v ∷ vs) → 40 ∷ inside ≡ bracketed (v ∷ vs) rest → (w : ℕ) × (ws : List ℕ) × (v ∷ vs ≡ done ++ (w ∷ ws)) × (left ≡ decimal w ++ behind ws rest)

pub begins : (inside : List ℕ) → Reading inside [] inside
begins inside = record { makes = λ w ws rest e. ap (λ bs. 40 ∷ bs) e; goes_on = λ v vs rest small e. (v, vs, refl, ap (drop 1) e) }

module _ (inside done left : List ℕ) (r : Reading inside done left) where
  -- the number that is there is the next step
  next_step : (v : ℕ) (vs rest : List ℕ) → Steps (v ∷ vs) → 40 ∷ inside ≡ bracketed (v ∷ vs) rest → (w : ℕ) × (ws : List ℕ) × (v ∷ vs ≡ done ++ (w ∷ ws)) × Front left w (behind ws rest)
  next_step v vs rest small e =
      let next = r.goes_on v vs rest small e in
      let ws = next.1 in
      (next.0, ws, next.2, (all_mid (λ s. s < number_bound) done ws next.0 (subst (AllByRecursion (λ s. s < number_bound)) next.2 small.1), next.3, behind_stops ws rest))

  pub no_number : ((v : ℕ) (rest : List ℕ) → Front left v rest → ⊥) → (v : ℕ) (vs rest : List ℕ) → Steps (v ∷ vs) → 40 ∷ inside ≡ bracketed (v ∷ vs) rest → ⊥
  no_number none v vs rest small e = let next = next_step v vs rest small e in none next.0 (behind next.1 rest) next.3

  module _ (v : ℕ) (after : List ℕ) (front : Front left v after) where
    pub ends_badly : ((rest : List ℕ) → after ≡ 41 ∷ rest → ⊥) → ((rest : List ℕ) → after ≡ 32 ∷ rest → ⊥) → (u : ℕ) (us rest : List ℕ) → Steps (u ∷ us) → 40 ∷ inside ≡ bracketed (u ∷ us) rest → ⊥
    ends_badly no-close no_space u us rest small e =
        let next = next_step u us rest small e in
        by next.1 (front_unique left v next.0 after (behind next.1 rest) front next.3).1
      where
        by : (ws : List ℕ) → after ≡ behind ws rest → ⊥
        by [] h = no-close rest h
        by (x ∷ xs) h = no_space (decimal x ++ behind xs rest) h

    pub goes_further : (further : List ℕ) → after ≡ 32 ∷ further → Reading inside (done ++ (v ∷ [])) further
    goes_further further e =
        record {
          makes =
              λ w ws rest h.
              r.makes v (w ∷ ws) rest (front.1 ∙ ap (λ bs. decimal v ++ bs) (e ∙ ap (λ bs. 32 ∷ bs) h))
              ∙ ap (λ p. bracketed p rest) (sym (append_assoc done (v ∷ []) (w ∷ ws)));
          goes_on =
              λ u us rest small h.
              let next = next_step u us rest small h in
              let told = front_unique left v next.0 after (behind next.1 rest) front next.3 in
              by u us rest next.0 next.1 next.2 told.0 told.1;
        }
      where
        by : (u : ℕ) (us rest : List ℕ) (w : ℕ) (ws : List ℕ) → u ∷ us ≡ done ++ (w ∷ ws) → v ≡ w → after ≡ behind ws rest → (x : ℕ) × (xs : List ℕ) × (u ∷ us ≡ (done ++ (v ∷ [])) ++ (x ∷ xs)) × (further ≡ decimal x ++ behind xs rest)
        by u us rest w [] p same h = absurd (let z : ◌≡◌ {A = ℕ} 41 32 = ap (λ bs. get_or bs 0 0) (sym h ∙ e) in omega (arith, z))
        by u us rest w (x ∷ xs) p same h =
            (x, xs, p ∙ ap (λ y. done ++ (y ∷ x ∷ xs)) (sym same) ∙ sym (append_assoc done (v ∷ []) (x ∷ xs)), ap (drop 1) (sym e ∙ h))

-- further steps and what is behind them are told by the bytes
behind_unique : (vs ws x y : List ℕ) → AllByRecursion (λ s. s < number_bound) vs → AllByRecursion (λ s. s < number_bound) ws → behind vs x ≡ behind ws y → (vs ≡ ws) × (x ≡ y)
behind_unique [] [] x y h k e = (refl, ap (drop 1) e)
behind_unique [] (w ∷ ws) x y h k e = absurd (let z : ◌≡◌ {A = ℕ} 41 32 = ap (λ bs. get_or bs 0 0) e in omega (arith, z))
behind_unique (v ∷ vs) [] x y h k e = absurd (let z : ◌≡◌ {A = ℕ} 32 41 = ap (λ bs. get_or bs 0 0) e in omega (arith, z))
behind_unique (v ∷ vs) (w ∷ ws) x y h k e =
    let one = front_unique (decimal v ++ behind vs x) v w (behind vs x) (behind ws y) (h.0, refl, behind_stops vs x) (k.0, ap (drop 1) e, behind_stops ws y) in
    let others = behind_unique vs ws x y h.1 k.1 one.1 in
    ((λ i. one.0 i ∷ others.0 i), others.1)

pub bracketed_unique : (p q x y : List ℕ) → Steps p → Steps q → bracketed p x ≡ bracketed q y → (p ≡ q) × (x ≡ y)
bracketed_unique [] [] x y h k e = (refl, ap (drop 2) e)
bracketed_unique [] (w ∷ ws) x y h k e = absurd (some_digit (41 ∷ x) w (behind ws y) (k.1.0, ap (drop 1) e, behind_stops ws y) refl)
bracketed_unique (v ∷ vs) [] x y h k e = absurd (some_digit (41 ∷ y) v (behind vs x) (h.1.0, ap (drop 1) (sym e), behind_stops vs x) refl)
bracketed_unique (v ∷ vs) (w ∷ ws) x y h k e =
    let one = front_unique (decimal v ++ behind vs x) v w (behind vs x) (behind ws y) (h.1.0, refl, behind_stops vs x) (k.1.0, ap (drop 1) e, behind_stops ws y) in
    let others = behind_unique vs ws x y h.1.1 k.1.1 one.1 in
    ((λ i. one.0 i ∷ others.0 i), others.1)

pub spaced_unique : (v w : ℕ) (x y : List ℕ) → v < number_bound → w < number_bound → spaced v x ≡ spaced w y → (v ≡ w) × (x ≡ y)
spaced_unique v w x y h k e =
    let one = front_unique (spaced v x) v w (32 ∷ x) (32 ∷ y) (h, refl, refl) (k, e, refl) in
    (one.0, ap (drop 1) one.1)
