-- How holders move with a step on one pool. Assumes nothing.
use Rattle.std.proofs.Common.{◌≡◌, ℕ, ◌+◌, ◌-◌, ◌<◌, ◌≤◌, true, false, cond, eqb, List, [], ◌∷◌, length, get_or, set, Some, None, Option, sym, refl, ap, ◌∙◌, ⊎_elim, arith}
use Rattle.std.proofs.lemmas.Bool.{cases_Bool, and_parts, eqb-true, lt-ltb, cases_eq, cases_lt, false≢true}
use Rattle.std.proofs.lemmas.List.{get_or-set_same, get_or-set_other, get_or-map, get_or_past, length-map}
use Rattle.pool.specs.Cells.{live, held, vacant, at, Puts, Retains, Releases}
use Rattle.pool.specs.Steps.{Step, Does, puts, retains, releases}
use Rattle.pool.specs.Counts.{Ledger, page, entry, named, same, slot, mentions, spends, makes}
use Rattle.pool.specs.declared.cell.Slot.{Slot}
use Rattle.pool.specs.declared.counted.Counted.{Counted}
use Rattle.pool.proofs.Counting.{each_step_keeps_the_counts}
use Rattle.pool.proofs.Fitting.{live_within}
use Rattle.forest.specs.declared.cells.TokenCell.{TokenCell}
use Rattle.forest.specs.States.{Kept, Grown, given_up, token_slots}

-- holders that no slot of a live cell is
abbrev pub free_holders : Ledger → Slot → ℕ
free_holders l s = (entry l s).count - mentions l s

pub step_moves : {C : Type 0} (slots : C → List Slot) (blank : C) (before after : List (Counted C)) (step : Step C) → Does blank before step after →
    (l : Ledger) (p : ℕ) → p < length l → get_or l p [] ≡ page slots before →
    ((s : Slot) → mentions l s ≤ (entry l s).count) → ((s : Slot) → spends slots p step s ≤ free_holders l s + makes slots p step s) →
    ((s : Slot) → mentions (set l p (page slots after)) s ≤ (entry (set l p (page slots after)) s).count)
    × ((s : Slot) → free_holders (set l p (page slots after)) s + spends slots p step s ≡ free_holders l s + makes slots p step s)
step_moves slots blank before after step does l p has is covers enough =
    let later : Slot → ℕ = (λ s. free_holders l s + makes slots p step s - spends slots p step s) in
    let counts = each_step_keeps_the_counts slots blank l p before after has is (free_holders l) later (λ s. omega (arith, covers s)) step does (λ s. omega (arith, enough s)) in
    ((λ s. omega (arith, counts s)), (λ s. omega (arith, counts s, enough s)))

-- one that is held can be spent
pub one_held : (f : Slot → ℕ) (p n : ℕ) → 0 < f (slot p n) → (s : Slot) → named (slot p n ∷ []) s ≤ f s
one_held f p n some s = ⊎_elim here elsewhere (cases_Bool (same s (slot p n)))
  where
    here : same s (slot p n) ≡ true → named (slot p n ∷ []) s ≤ f s
    here e =
        let parts = and_parts (eqb s.pool p) (eqb s.index n) e in
        let is : slot p n ≡ s = (λ i. slot (sym (eqb-true s.pool p parts.0) i) (sym (eqb-true s.index n parts.1) i)) in
        omega (arith, ap (λ b. cond {A = ℕ} b 1 0) e, ap f is, some)

    elsewhere : same s (slot p n) ≡ false → named (slot p n ∷ []) s ≤ f s
    elsewhere e = omega (arith, ap (λ b. cond {A = ℕ} b 1 0) e)

module _ {C : Type 0} (blank : C) where
  -- a release from any pool leaves what stays live as it was
  pub release_keeps : (before after : List (Counted C)) (n : ℕ) (r : Option C) → Releases blank before n r after → Kept blank before after
  release_keeps before after n r h k alive = ⊎_elim (here r h) (elsewhere r h) (cases_eq k n)
    where
      lives : (r : Option C) → Releases blank before n r after → live (at blank before n) ≡ true
      lives None h = lt-ltb 0 (at blank before n).count (omega (arith, h.0))
      lives (Some c) h = ap live h.0

      other : (x : Counted C) → after ≡ set before n x → (k ≡ n → ⊥) → at blank after k ≡ at blank before k
      other x e ne = ap (λ cs. at blank cs k) e ∙ get_or-set_other before n k x (vacant blank) ne

      elsewhere : (r : Option C) → Releases blank before n r after → (k ≡ n → ⊥) → (live (at blank before k) ≡ true) × ((at blank after k).cell ≡ (at blank before k).cell)
      elsewhere None h ne = let e = other _ h.1 ne in (sym (ap live e) ∙ alive, ap (λ x. x.cell) e)
      elsewhere (Some c) h ne = let e = other _ h.1 ne in (sym (ap live e) ∙ alive, ap (λ x. x.cell) e)

      now : (r : Option C) (h : Releases blank before n r after) (x : Counted C) → after ≡ set before n x → k ≡ n → at blank after k ≡ x
      now r h x e is =
          (λ i. at blank (e i) (is i)) ∙ get_or-set_same before n x (vacant blank) (live_within blank before n (lives r h))

      here : (r : Option C) → Releases blank before n r after → k ≡ n → (live (at blank before k) ≡ true) × ((at blank after k).cell ≡ (at blank before k).cell)
      here None h is =
          (ap (λ j. live (at blank before j)) is ∙ lives None h, ap (λ x. x.cell) (now None h _ h.1 is) ∙ ap (λ j. (at blank before j).cell) (sym is))
      here (Some c) h is = absurd (false≢true (sym (ap live (now (Some c) h _ h.1 is)) ∙ alive))

module _ {C : Type 0} (slots : C → List Slot) (blank : C) (cells : List (Counted C)) (l : Ledger) (p : ℕ) (has : p < length l) (is : get_or l p [] ≡ page slots cells) where
  -- the count in the ledger is the cell's
  pub page_count : (n : ℕ) → (entry l (slot p n)).count ≡ (at blank cells n).count
  page_count n =
      ap (λ pg. (at [] pg n).count) is
      ∙ ⊎_elim (λ lt. ap (λ x. x.count) (get_or-map (λ c. held c.count (slots c.cell)) cells n (vacant blank) (vacant []) lt))
      (λ past. ap (λ x. x.count) (get_or_past (page slots cells) n (vacant []) (omega (arith, past, length-map cells (λ c. held c.count (slots c.cell))))) ∙ sym (ap (λ x. x.count) (get_or_past cells n (vacant blank) past)))
      (cases_lt n (length cells))

  pub release_moves : (after : List (Counted C)) (n : ℕ) (r : Option C) → Releases blank cells n r after → ((s : Slot) → mentions l s ≤ (entry l s).count) → 0 < free_holders l (slot p n) →
      ((s : Slot) → mentions (set l p (page slots after)) s ≤ (entry (set l p (page slots after)) s).count)
      × ((s : Slot) → free_holders (set l p (page slots after)) s + named (slot p n ∷ []) s ≡ free_holders l s + named (given_up slots r) s)
  release_moves after n None h covers some = step_moves slots blank cells after (releases n None) h l p has is covers (λ s. omega (arith, one_held (free_holders l) p n some s))
  release_moves after n (Some c) h covers some = step_moves slots blank cells after (releases n (Some c)) h l p has is covers (λ s. omega (arith, one_held (free_holders l) p n some s))

-- a token names nothing
pub token_names_nothing : (r : Option TokenCell) (s : Slot) → named (given_up token_slots r) s ≡ 0
token_names_nothing None s = refl
token_names_nothing (Some c) s = refl

module _ {C : Type 0} (slots : C → List Slot) (blank : C) (cells after : List (Counted C)) (l : Ledger) (p : ℕ) (has : p < length l) (is : get_or l p [] ≡ page slots cells) (covers : (s : Slot) → mentions l s ≤ (entry l s).count) where
  pub put_moves : (c : C) (n : ℕ) → Puts blank cells c (Some n) after → ((s : Slot) → named (slots c) s ≤ free_holders l s) →
      ((s : Slot) → mentions (set l p (page slots after)) s ≤ (entry (set l p (page slots after)) s).count)
      × ((s : Slot) → free_holders (set l p (page slots after)) s + named (slots c) s ≡ free_holders l s + named (slot p n ∷ []) s)
  put_moves c n h enough = step_moves slots blank cells after (puts c (Some n)) h l p has is covers (λ s. omega (arith, enough s))

  pub retain_moves : (n : ℕ) → Retains blank cells n after →
      ((s : Slot) → mentions (set l p (page slots after)) s ≤ (entry (set l p (page slots after)) s).count)
      × ((s : Slot) → free_holders (set l p (page slots after)) s + 0 ≡ free_holders l s + named (slot p n ∷ []) s)
  retain_moves n h = step_moves slots blank cells after (retains n) h l p has is covers (λ s. omega arith)

module _ {C : Type 0} (blank : C) (before after : List (Counted C)) (n : ℕ) where
  -- a put into any pool leaves what is live as it was
  pub put_grows : (c : C) → Puts blank before c (Some n) after → Grown blank before after
  put_grows c h k alive =
      let other : k ≡ n → ⊥ = (λ e. false≢true (sym h.1 ∙ ap (λ j. live (at blank before j)) (sym e) ∙ alive)) in
      let same = ap (λ cs. at blank cs k) h.2 ∙ get_or-set_other before n k (held 1 c) (vacant blank) other in
      (ap live same ∙ alive, ap (λ x. x.cell) same)

  -- and so does a retain, but for a count
  pub retain_grows : Retains blank before n after → Grown blank before after
  retain_grows h k alive =
      ⊎_elim
      (λ e. let now = (λ i. at blank (h.1 i) (e i)) ∙ get_or-set_same before n (held ((at blank before n).count + 1) (at blank before n).cell) (vacant blank) (live_within blank before n h.0) in
      (ap live now ∙ lt-ltb 0 ((at blank before n).count + 1) (omega arith), ap (λ x. x.cell) now ∙ ap (λ j. (at blank before j).cell) (sym e)))
      (λ other. let same = ap (λ cs. at blank cs k) h.1 ∙ get_or-set_other before n k (held ((at blank before n).count + 1) (at blank before n).cell) (vacant blank) other in
      (ap live same ∙ alive, ap (λ x. x.cell) same))
      (cases_eq k n)
