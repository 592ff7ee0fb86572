-- An allocator that fits its cells, through puts, retains and releases. Assumes nothing.
use Rattle.std.proofs.Common.{◌≡◌, ℕ, ◌+◌, ◌<◌, Bool, true, false, cond, not, List, [], ◌∷◌, map, length, get_or, set, Some, None, count_by, sym, refl, ap, ◌∙◌, ⊎_elim, arith}
use Rattle.std.proofs.lemmas.List.{ext_get_or, length-map, get_or-map, map-set, set-get_or, get_or_past}
use Rattle.std.proofs.lemmas.List.Sums.{sum_by-cons}
use Rattle.std.proofs.lemmas.Bool.{cases_lt, false≢true}
use Rattle.allocator.specs.Allocations.{clear, Allocates, Frees}
use Rattle.pool.specs.Cells.{live, held, vacant, at, Fits, Puts}
use Rattle.pool.specs.declared.counted.Counted.{Counted}

-- those that pass and those that do not are all
passed : {X : Type 0} (p : X → Bool) (xs : List X) → count_by not (map p xs) + count_by p xs ≡ length xs
passed p [] = refl
passed p (x ∷ xs) = omega (arith, sum_by-cons (λ b. cond (not b) 1 0) (p x) (map p xs), sum_by-cons (λ y. cond (p y) 1 0) x xs, passed p xs, one (p x))
  where
    one : (b : Bool) → cond (not b) 1 0 + cond b 1 0 ≡ 1
    one true = refl
    one false = refl

module _ {C : Type 0} (blank : C) where
  -- a live number is one of the slice's
  pub live_within : (cs : List (Counted C)) (n : ℕ) → live (at blank cs n) ≡ true → n < length cs
  live_within cs n alive =
      ⊎_elim (λ lt. lt)
      (λ le. absurd (false≢true (sym (ap live (get_or_past cs n (vacant blank) le)) ∙ alive)))
      (cases_lt n (length cs))

  -- bits that fit, bit by bit
  pub fits_bit : (cs : List (Counted C)) (bits : List Bool) → Fits bits cs → (k : ℕ) → k < length cs → get_or bits k false ≡ live (at blank cs k)
  fits_bit cs bits fits k lt = ap (λ bs. get_or bs k false) fits ∙ get_or-map live cs k (vacant blank) false lt

  pub bits_fit : (cs : List (Counted C)) (bits : List Bool) → length bits ≡ length cs → ((k : ℕ) → k < length bits → get_or bits k false ≡ live (at blank cs k)) → Fits bits cs
  bits_fit cs bits same each =
      ext_get_or false bits (map live cs) (same ∙ sym (length-map cs live))
      (λ k lt. each k lt ∙ sym (get_or-map live cs k (vacant blank) false (omega (arith, same, lt))))

  live_bit : (cs : List (Counted C)) (bits : List Bool) (n : ℕ) → Fits bits cs → live (at blank cs n) ≡ true → get_or bits n false ≡ true
  live_bit cs bits n fits alive = fits_bit cs bits fits n (live_within cs n alive) ∙ alive

  -- where nothing is free, all are live
  pub full_put : (cs : List (Counted C)) (bits : List Bool) (c : C) → Fits bits cs → clear bits ≡ 0 → Puts blank cs c None cs
  full_put cs bits c fits none = (omega (arith, passed live cs, ap clear fits, none), refl)

  pub fits_put : (cs : List (Counted C)) (before after : List Bool) (n : ℕ) (c : C) → Fits before cs → Allocates before (Some n) after → Fits after (set cs n (held 1 c))
  fits_put cs before after n c fits h = h.2 ∙ ap (λ bs. set bs n true) fits ∙ sym (map-set live cs n (held 1 c))

  -- a live cell that stays live
  pub fits_kept : (cs : List (Counted C)) (bits : List Bool) (n : ℕ) (x : Counted C) → live x ≡ true → live (at blank cs n) ≡ true → Fits bits cs → Fits bits (set cs n x)
  fits_kept cs bits n x stays alive fits =
      sym (set-get_or bits n false) ∙ (λ i. set (fits i) n ((live_bit cs bits n fits alive ∙ sym stays) i)) ∙ sym (map-set live cs n x)

  -- a live cell that dies, and is given back
  pub fits_freed : (cs : List (Counted C)) (bits later : List Bool) (n : ℕ) (x : Counted C) (r : Bool) → live x ≡ false → live (at blank cs n) ≡ true → Fits bits cs → Frees bits n r later → Fits later (set cs n x)
  fits_freed cs bits later n x true dies alive fits f =
      f.1 ∙ (λ i. set (fits i) n (sym dies i)) ∙ sym (map-set live cs n x)
  fits_freed cs bits later n x false dies alive fits f = absurd (false≢true (sym f.0 ∙ live_bit cs bits n fits alive))
