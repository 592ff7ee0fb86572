-- The counting law: a step on one pool keeps the counts of all. Assumes nothing.
use Rattle.std.proofs.Common.{◌≡◌, ℕ, zero, suc, ◌+◌, ◌-◌, ◌<◌, ◌≤◌, Bool, true, false, cond, List, [], ◌∷◌, map, length, get_or, set, replicate, Some, None, sum_by, sym, refl, ap, ◌∙◌, subst, ⊎_elim, arith}
use Rattle.std.proofs.lemmas.List.{get_or-set_same, get_or-set_other, get_or-map, get_or_past, get_or-replicate, map-set, set-get_or, length-map, length-replicate}
use Rattle.std.proofs.lemmas.List.Sums.{sum_by-cons, sum_by-set, get_or-le-sum_by}
use Rattle.std.proofs.lemmas.Bool.{cases_eq, cases_lt, and_from, and_left, and_right, lt-ltb, ltb-false, eq-eqb, ne_eqb}
use Rattle.pool.specs.Cells.{live, held, vacant, at, Fits, Tidy}
use Rattle.pool.specs.Steps.{Step, puts, retains, releases, Does}
use Rattle.pool.specs.Counts.{Page, Ledger, page, slot, entry, same, named, tells, mentions, Holders, Counts, spends, makes}
use Rattle.pool.specs.declared.cell.Slot.{Slot}
use Rattle.pool.specs.declared.counted.Counted.{Counted}
use Rattle.pool.proofs.Fitting.{live_within}

-- one entry of one page is written anew
module _ (l : Ledger) (p n : ℕ) (es : Page) (x : Counted (List Slot)) (has : p < length l) (is : get_or l p [] ≡ es) (within : n < length es) where
  mentions_written : (s : Slot) → mentions (set l p (set es n x)) s + tells s (at [] es n) ≡ mentions l s + tells s x
  mentions_written s =
      omega (arith, sum_by-set (sum_by (tells s)) l p (set es n x) [] has, sum_by-set (tells s) es n x (vacant []) within, ap (sum_by (tells s)) is)

  abbrev Written : Slot → Type 0
  Written s = (entry (set l p (set es n x)) s).count + cond (same s (slot p n)) (at [] es n).count 0 ≡ (entry l s).count + cond (same s (slot p n)) x.count 0

  elsewhere : (s : Slot) → same s (slot p n) ≡ false → entry (set l p (set es n x)) s ≡ entry l s → Written s
  elsewhere s other kept = (λ i. (kept i).count + cond (other i) (at [] es n).count 0) ∙ (λ i. (entry l s).count + cond (sym other i) x.count 0)

  here : (s : Slot) → same s (slot p n) ≡ true → entry (set l p (set es n x)) s ≡ x → entry l s ≡ at [] es n → Written s
  here s it now was = omega (arith, ap (λ b. cond b (at [] es n).count 0) it, ap (λ b. cond b x.count 0) it, ap (λ e. e.count) now, ap (λ e. e.count) was)

  count_written : (s : Slot) → Written s
  count_written s =
      ⊎_elim
      (λ pool. let turned = ap (λ q. get_or (set l p (set es n x)) q []) pool ∙ get_or-set_same l p (set es n x) [] has in
      let old = ap (λ q. get_or l q []) pool ∙ is in ⊎_elim
      (λ index. here s (and_from _ _ (eq-eqb _ _ pool) (eq-eqb _ _ index))
      ((λ i. at [] (turned i) (index i)) ∙ get_or-set_same es n x (vacant []) within)
      (λ i. at [] (old i) (index i)))
      (λ other. elsewhere s (and_right _ _ (ne_eqb _ _ other))
      (ap (λ es'. at [] es' s.index) turned ∙ get_or-set_other es n s.index x (vacant []) other ∙ ap (λ es'. at [] es' s.index) (sym old)))
      (cases_eq s.index n))
      (λ other. elsewhere s (and_left _ _ (ne_eqb _ _ other)) (ap (λ es'. at [] es' s.index) (get_or-set_other l p s.pool (set es n x) [] other)))
      (cases_eq s.pool p)

  -- what holds of the counts before holds of them after, where the cell's own equation does
  kept : (holders later : Holders) (spend make : Slot → ℕ) → Counts l holders → ((s : Slot) → later s + spend s ≡ holders s + make s) → ((s : Slot) → cond (same s (slot p n)) x.count 0 + spend s + tells s (at [] es n) ≡ cond (same s (slot p n)) (at [] es n).count 0 + make s + tells s x) → Counts (set l p (set es n x)) later
  kept holders later spend make counts moves own s = omega (arith, count_written s, mentions_written s, counts s, moves s, own s)

module _ {C : Type 0} (slots : C → List Slot) (blank : C) where
  abbrev told : Counted C → Counted (List Slot)
  told c = held c.count (slots c.cell)

  module _ (l : Ledger) (p : ℕ) (before after : List (Counted C)) (has : p < length l) (is : get_or l p [] ≡ page slots before) (holders later : Holders) (counts : Counts l holders) where
    -- one cell of one pool is written anew
    stored : (n : ℕ) (x : Counted C) (spend make : Slot → ℕ) → n < length before → after ≡ set before n x → ((s : Slot) → later s + spend s ≡ holders s + make s) → ((s : Slot) → cond (same s (slot p n)) x.count 0 + spend s + tells s (told (at blank before n)) ≡ cond (same s (slot p n)) (at blank before n).count 0 + make s + tells s (told x)) → Counts (set l p (page slots after)) later
    stored n x spend make lt e moves own =
        let es = page slots before in
        let was : at [] es n ≡ told (at blank before n) = get_or-map told before n (vacant blank) (vacant []) lt in
        subst (λ pg. Counts (set l p pg) later) (sym (ap (page slots) e ∙ map-set told before n x))
        (kept l p n es (told x) has is (omega (arith, lt, length-map before told)) holders later spend make counts moves
        (λ s. subst (λ w. cond (same s (slot p n)) x.count 0 + spend s + tells s w ≡ cond (same s (slot p n)) w.count 0 + make s + tells s (told x)) (sym was) (own s)))

    own_put : (b : Bool) (N e : ℕ) → e ≡ 0 → cond b 1 0 + N + 0 ≡ cond b e 0 + cond b 1 0 + N
    own_put true N e h = omega (arith, h)
    own_put false N e h = omega arith

    own_retain : (b : Bool) (k T : ℕ) → cond b (k + 1) 0 + 0 + T ≡ cond b k 0 + cond b 1 0 + T
    own_retain true k T = omega arith
    own_retain false k T = omega arith

    own_release : (b : Bool) (k T : ℕ) → 1 < k → cond b (k - 1) 0 + cond b 1 0 + T ≡ cond b k 0 + 0 + T
    own_release true k T h = omega (arith, h)
    own_release false k T h = omega arith

    own_death : (b : Bool) (N : ℕ) → cond b 0 0 + cond b 1 0 + N ≡ cond b 1 0 + N + 0
    own_death true N = omega arith
    own_death false N = omega arith

    -- what a cell's slots name is told as long as it is live
    told_live : (s : Slot) (c : Counted C) → live c ≡ true → tells s (told c) ≡ named (slots c.cell) s
    told_live s c alive = ap (λ b. cond b (named (slots c.cell) s) 0) alive

    told_dead : (s : Slot) (c : Counted C) → live c ≡ false → tells s (told c) ≡ 0
    told_dead s c dead = ap (λ b. cond b (named (slots c.cell) s) 0) dead

    pub each_step_keeps_the_counts : (step : Step C) → Does blank before step after → ((s : Slot) → later s + spends slots p step s ≡ holders s + makes slots p step s) → Counts (set l p (page slots after)) later
    each_step_keeps_the_counts (puts c (Some n)) h moves =
        stored n (held 1 c) (named (slots c)) (named (slot p n ∷ [])) h.0 h.2 moves
        (λ s. omega (arith, own_put (same s (slot p n)) (named (slots c) s) (at blank before n).count (omega (arith, ltb-false 0 (at blank before n).count h.1)), told_dead s (at blank before n) h.1))
    each_step_keeps_the_counts (puts c None) h moves =
        subst (λ pg. Counts (set l p pg) later) (is ∙ ap (page slots) (sym h.1))
        (subst (λ m. Counts m later) (sym (set-get_or l p [])) (λ s. omega (arith, counts s, moves s)))
    each_step_keeps_the_counts (retains n) h moves =
        stored n _ (λ _. 0) (named (slot p n ∷ [])) (live_within blank before n h.0) h.1 moves
        (λ s. omega (arith, own_retain (same s (slot p n)) (at blank before n).count (named (slots (at blank before n).cell) s), told_live s (at blank before n) h.0, told_live s (held ((at blank before n).count + 1) (at blank before n).cell) (lt-ltb 0 ((at blank before n).count + 1) (omega arith))))
    each_step_keeps_the_counts (releases n None) h moves =
        let alive : live (at blank before n) ≡ true = lt-ltb 0 (at blank before n).count (omega (arith, h.0)) in
        stored n _ (named (slot p n ∷ [])) (λ _. 0) (live_within blank before n alive) h.1 moves
        (λ s. omega (arith, own_release (same s (slot p n)) (at blank before n).count (named (slots (at blank before n).cell) s) h.0, told_live s (at blank before n) alive, told_live s (held ((at blank before n).count - 1) (at blank before n).cell) (lt-ltb 0 ((at blank before n).count - 1) (omega (arith, h.0)))))
    each_step_keeps_the_counts (releases n (Some c)) h moves =
        stored n (vacant blank) (named (slot p n ∷ [])) (named (slots c)) (live_within blank before n (ap live h.0)) h.1 moves
        (λ s. subst (λ w. cond (same s (slot p n)) 0 0 + named (slot p n ∷ []) s + tells s (told w) ≡ cond (same s (slot p n)) w.count 0 + named (slots c) s + tells s (told (vacant blank))) (sym h.0) (omega (arith, own_death (same s (slot p n)) (named (slots c) s))))

-- a live cell's slot is one of the mentions
mentioned : (l : Ledger) (s t : Slot) → live (entry l s) ≡ true → named (entry l s).cell t ≤ mentions l t
mentioned l s t alive =
    let pg = get_or l s.pool [] in
    let within : s.index < length pg = live_within [] pg s.index alive in
    let has : s.pool < length l =
    ⊎_elim (λ lt. lt) (λ past. absurd (let none : s.index < 0 = subst (λ q. s.index < length q) (get_or_past l s.pool [] past) within in omega (arith, none))) (cases_lt s.pool (length l)) in
    omega (arith, get_or-le-sum_by (sum_by (tells t)) l s.pool [] has, get_or-le-sum_by (tells t) pg s.index (vacant []) within, ap (λ b. cond b (named (entry l s).cell t) 0) alive)

pub named_cells_are_live : (l : Ledger) (holders : Holders) → Counts l holders → (s t : Slot) → live (entry l s) ≡ true → 0 < named (entry l s).cell t → live (entry l t) ≡ true
named_cells_are_live l holders counts s t alive names = lt-ltb 0 (entry l t).count (omega (arith, counts t, mentioned l s t alive, names))

-- new pages
vacant-entry : {C : Type 0} (blank : C) (n i : ℕ) → at blank (replicate n (vacant blank)) i ≡ vacant blank
vacant-entry blank n i =
    ⊎_elim (λ lt. get_or-replicate n i (vacant blank) (vacant blank) lt)
    (λ past. get_or_past (replicate n (vacant blank)) i (vacant blank) (omega (arith, past, length-replicate n (vacant blank))))
    (cases_lt i n)

none_told : (s : Slot) (n : ℕ) → sum_by (tells s) (replicate n (vacant [])) ≡ 0
none_told s zero = refl
none_told s (suc n) = omega (arith, sum_by-cons (tells s) (vacant []) (replicate n (vacant [])), none_told s n)

none_mentioned : (s : Slot) (sizes : List ℕ) → mentions (map (λ n. replicate n (vacant [])) sizes) s ≡ 0
none_mentioned s [] = refl
none_mentioned s (n ∷ sizes) = omega (arith, sum_by-cons (sum_by (tells s)) (replicate n (vacant [])) (map (λ m. replicate m (vacant [])) sizes), none_told s n, none_mentioned s sizes)

vacant_in : (sizes : List ℕ) (s : Slot) → entry (map (λ n. replicate n (vacant [])) sizes) s ≡ vacant []
vacant_in sizes s =
    ⊎_elim
    (λ lt. ap (λ pg. at [] pg s.index) (get_or-map (λ n. replicate n (vacant [])) sizes s.pool 0 [] lt) ∙ vacant-entry [] (get_or sizes s.pool 0) s.index)
    (λ past. ap (λ pg. at [] pg s.index) (get_or_past (map (λ n. replicate n (vacant [])) sizes) s.pool [] (omega (arith, past, length-map sizes (λ n. replicate n (vacant {C = List Slot} []))))))
    (cases_lt s.pool (length sizes))

pub new_pools_count : (sizes : List ℕ) → Counts (map (λ n. replicate n (vacant [])) sizes) (λ _. 0)
new_pools_count sizes s = omega (arith, ap (λ e. e.count) (vacant_in sizes s), none_mentioned s sizes)

pub new_page : {C : Type 0} (slots : C → List Slot) (blank : C) → slots blank ≡ [] → (n : ℕ) → page slots (replicate n (vacant blank)) ≡ replicate n (vacant [])
new_page slots blank nothing zero = refl
new_page slots blank nothing (suc n) = (λ i. vacant (nothing i) ∷ new_page slots blank nothing n i)

pub new_fits : {C : Type 0} (blank : C) (n : ℕ) → Fits (replicate n false) (replicate n (vacant blank))
new_fits blank zero = refl
new_fits blank (suc n) = ap (λ bs. false ∷ bs) (new_fits blank n)

pub new_tidy : {C : Type 0} (blank : C) (n : ℕ) → Tidy blank (replicate n (vacant blank))
new_tidy blank n i dead = vacant-entry blank n i
