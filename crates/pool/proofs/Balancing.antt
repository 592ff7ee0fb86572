-- Over the steps of one pool: live cells balance, and dead cells stay blank. Assumes nothing.
use Rattle.std.proofs.Common.{◌≡◌, ℕ, ◌+◌, ◌-◌, ◌<◌, Bool, true, false, cond, ltb, List, [], ◌∷◌, length, get_or, set, is_some, Some, None, Option, sym, refl, ap, ◌∙◌, subst, ⊎_elim, arith}
use Rattle.std.proofs.lemmas.List.{get_or-set_same, get_or-set_other, get_or_past, length-set, set-set, set-get_or}
use Rattle.std.proofs.lemmas.List.Sums.{sum_by-cons, sum_by-set, count_by-le-length}
use Rattle.std.proofs.lemmas.Bool.{cases_eq, cases_lt, true≢false, lt-ltb}
use Rattle.pool.specs.Cells.{live, held, vacant, at, live_number, Puts, Releases, Tidy}
use Rattle.pool.specs.Steps.{Step, puts, retains, releases, Does, Runs, takes, gives_back, taken, given_back}
use Rattle.pool.proofs.Fitting.{live_within}
use Rattle.pool.specs.declared.counted.Counted.{Counted}

module _ {C : Type 0} (blank : C) where
  -- a cell that is written anew
  written : (before : List (Counted C)) (n : ℕ) (x : Counted C) → n < length before → live_number (set before n x) + cond (live (at blank before n)) 1 0 ≡ live_number before + cond (live x) 1 0
  written before n x lt = sum_by-set (λ c. cond (live c) 1 0) before n x (vacant blank) lt

  changed : (before after : List (Counted C)) (n : ℕ) (x : Counted C) (was is : Bool) → n < length before → live (at blank before n) ≡ was → live x ≡ is → after ≡ set before n x → live_number after + cond was 1 0 ≡ live_number before + cond is 1 0
  changed before after n x was is lt w i e =
      subst (λ b. live_number after + cond b 1 0 ≡ live_number before + cond is 1 0) w
      (subst (λ b. live_number after + cond (live (at blank before n)) 1 0 ≡ live_number before + cond b 1 0) i
      (subst (λ cs. live_number cs + cond (live (at blank before n)) 1 0 ≡ live_number before + cond (live x) 1 0) (sym e) (written before n x lt)))

  step_balances : (before after : List (Counted C)) (s : Step C) → Does blank before s after → live_number after + gives_back s ≡ live_number before + takes s
  step_balances before after (puts c (Some n)) h = changed before after n (held 1 c) false true h.0 h.1 refl h.2
  step_balances before after (puts c None) h = ap (λ cs. live_number cs + 0) h.1
  step_balances before after (retains n) h =
      omega (arith, changed before after n _ true true (live_within blank before n h.0) h.0 (lt-ltb 0 ((at blank before n).count + 1) (omega arith)) h.1)
  step_balances before after (releases n None) h =
      let alive : live (at blank before n) ≡ true = lt-ltb 0 (at blank before n).count (omega (arith, h.0)) in
      omega (arith, changed before after n _ true true (live_within blank before n alive) alive (lt-ltb 0 ((at blank before n).count - 1) (omega (arith, h.0))) h.1)
  step_balances before after (releases n (Some c)) h =
      let alive : live (at blank before n) ≡ true = ap live h.0 in
      changed before after n (vacant blank) true false (live_within blank before n alive) alive refl h.1

  pub live_cells_balance : (before after : List (Counted C)) (ss : List (Step C)) → Runs blank before ss after → live_number after + given_back ss ≡ live_number before + taken ss
  live_cells_balance before after [] h = ap (λ cs. live_number cs + 0) h
  live_cells_balance before after (s ∷ ss) h =
      omega (arith, step_balances before h.0 s h.1, live_cells_balance h.0 after ss h.2, sum_by-cons takes s ss, sum_by-cons gives_back s ss)

  -- a cell that is written, live or blank
  tidy_written : (before after : List (Counted C)) (n : ℕ) (x : Counted C) → (live x ≡ false → x ≡ vacant blank) → after ≡ set before n x → Tidy blank before → Tidy blank after
  tidy_written before after n x fine e tidy =
      subst (Tidy blank) (sym e)
      (λ k. ⊎_elim
      (λ same. ⊎_elim
      (λ lt. let written = ap (λ j. get_or (set before n x) j (vacant blank)) same ∙ get_or-set_same before n x (vacant blank) lt in λ dead. written ∙ fine (sym (ap live written) ∙ dead))
      (λ le dead. get_or_past (set before n x) k (vacant blank) (omega (arith, le, same, length-set before n x)))
      (cases_lt n (length before)))
      (λ other. let kept = get_or-set_other before n k x (vacant blank) other in λ dead. kept ∙ tidy k (sym (ap live kept) ∙ dead))
      (cases_eq k n))

  step_tidy : (before after : List (Counted C)) (s : Step C) → Does blank before s after → Tidy blank before → Tidy blank after
  step_tidy before after (puts c (Some n)) h = tidy_written before after n (held 1 c) (λ dead. absurd (true≢false dead)) h.2
  step_tidy before after (puts c None) h = subst (Tidy blank) (sym h.1)
  step_tidy before after (retains n) h =
      tidy_written before after n _ (λ dead. absurd (true≢false (sym (lt-ltb 0 ((at blank before n).count + 1) (omega arith)) ∙ dead))) h.1
  step_tidy before after (releases n None) h =
      tidy_written before after n _ (λ dead. absurd (true≢false (sym (lt-ltb 0 ((at blank before n).count - 1) (omega (arith, h.0))) ∙ dead))) h.1
  step_tidy before after (releases n (Some c)) h = tidy_written before after n (vacant blank) (λ dead. refl) h.1

  pub dead_cells_stay_blank : (before after : List (Counted C)) (ss : List (Step C)) → Runs blank before ss after → Tidy blank before → Tidy blank after
  dead_cells_stay_blank before after [] h tidy = subst (Tidy blank) (sym h) tidy
  dead_cells_stay_blank before after (s ∷ ss) h tidy = dead_cells_stay_blank h.0 after ss h.2 (step_tidy before h.0 s h.1 tidy)

  -- a cell that is put and let go leaves the cells as they were
  pub put_and_released : (before between after : List (Counted C)) (c : C) (n : ℕ) (r : Option C) → Tidy blank before → Puts blank before c (Some n) between → Releases blank between n r after → (is_some r ≡ ltb (live_number before) (length before)) × (after ≡ before)
  put_and_released before between after c n None tidy put released =
      let one = ap (λ cs. (at blank cs n).count) put.2 ∙ ap (λ x. x.count) (get_or-set_same before n (held 1 c) (vacant blank) put.0) in
      absurd (omega (arith, one, released.0))
  put_and_released before between after c n (Some d) tidy put released = (
    sym (lt-ltb (live_number before) (length before)
        (omega (arith, step_balances before between (puts c (Some n)) put, count_by-le-length live between, ap length put.2, length-set before n (held 1 c)))),
    released.1 ∙ ap (λ cs. set cs n (vacant blank)) put.2 ∙ set-set before n (held 1 c) (vacant blank)
        ∙ ap (set before n) (sym (tidy n put.1)) ∙ set-get_or before n (vacant blank),
  )
