-- Where an edited tree is well formed, and where neighbours in a changed chain run together. Assumes nothing.
use Rattle.std.proofs.Common.{◌≡◌, ℕ, zero, suc, ◌+◌, ◌≤◌, max, Bool, true, false, cond, ◌⊎◌, List, [], ◌∷◌, length, Some, None, Option, sym, refl, ap, ◌∙◌, subst, inl, inr, ⊎_elim, arith}
use Rattle.std.proofs.lemmas.Bool.{cond-false}
use Rattle.syntax.specs.Census.{first_of}
use Rattle.syntax.specs.declared.kind.ItemKind.TheVariants as I
use Rattle.tree.specs.Edits.{Leads, chain, replaced, edited}
use Rattle.tree.specs.Items.{top_items, first_kind, take_items, drop_items, inner}
use Rattle.tree.specs.Laws.{Reaches, SoundEdit}
use Rattle.tree.specs.Trees.{Tree, nil, token, form, ◌⧺◌}
use Rattle.tree.specs.WellFormed.{clash, clash_from, first_clash, nesting, TokensObey, Apart, WellFormed}
use Rattle.tree.proofs.Chains.{kinds-⧺, take-drop_items, top_items-take, form_between}

-- no neighbours of the chain itself run together
abbrev TopApart : Tree → Type 0
TopApart nil = Unit {0}
TopApart (token k bs r) = (clash (I.Token k) (first_kind r) ≡ false) × TopApart r
TopApart (form i r) = TopApart r

-- none do in the chains of its forms
abbrev InnerApart : Tree → Type 0
InnerApart nil = Unit {0}
InnerApart (token k bs r) = InnerApart r
InnerApart (form i r) = Apart i × InnerApart r

apart_parts : (t : Tree) → Apart t → TopApart t × InnerApart t
apart_parts nil h = (tt, tt)
apart_parts (token k bs r) h = let p = apart_parts r h.1 in ((h.0, p.0), p.1)
apart_parts (form i r) h = let p = apart_parts r h.1 in (p.0, (h.0, p.1))

apart_whole : (t : Tree) → TopApart t → InnerApart t → Apart t
apart_whole nil top inn = tt
apart_whole (token k bs r) top inn = (top.0, apart_whole r top.1 inn)
apart_whole (form i r) top inn = (inn.0, apart_whole r top inn.1)

clash_none : (t : Tree) (n : ℕ) → TopApart t → clash_from n t ≡ None
clash_none nil n h = refl
clash_none (token k bs r) n h = cond-false (clash (I.Token k) (first_kind r)) _ _ h.0 ∙ clash_none r (suc n) h.1
clash_none (form i r) n h = clash_none r (suc n) h

none_apart : (t : Tree) (n : ℕ) → clash_from n t ≡ None → TopApart t
none_apart nil n h = tt
none_apart (token k bs r) n h = by (clash (I.Token k) (first_kind r)) refl h (none_apart r (suc n))
  where
    by : (b : Bool) → clash (I.Token k) (first_kind r) ≡ b → cond b (Some (suc n)) (clash_from (suc n) r) ≡ None → (clash_from (suc n) r ≡ None → TopApart r) → (clash (I.Token k) (first_kind r) ≡ false) × TopApart r
    by true e h rest = absurd cc
    by false e h rest = (e, rest h)
none_apart (form i r) n h = none_apart r (suc n) h

-- one item further on
further : (n : ℕ) (r b : Tree) (x : Option ℕ) → x ≡ clash_from (suc n) (r ⧺ b) → (clash_from (suc n) (r ⧺ b) ≡ Some (suc n + top_items r)) ⊎ (clash_from (suc n) (r ⧺ b) ≡ clash_from (suc n + top_items r) b) → (x ≡ Some (n + suc (top_items r))) ⊎ (x ≡ clash_from (n + suc (top_items r)) b)
further n r b x e =
    let m : suc n + top_items r ≡ n + suc (top_items r) = omega arith in
    ⊎_elim (λ h. inl (e ∙ h ∙ ap Some m)) (λ h. inr (e ∙ h ∙ ap (λ q. clash_from q b) m))

-- behind a chain in which nothing runs together, the first clash is at the seam or in what comes then
seam : (a b : Tree) (n : ℕ) → TopApart a → (clash_from n (a ⧺ b) ≡ Some (n + top_items a)) ⊎ (clash_from n (a ⧺ b) ≡ clash_from (n + top_items a) b)
seam nil b n h = inr (let e : n ≡ n + 0 = omega arith in ap (λ m. clash_from m b) e)
seam (token k bs nil) b n h = by (clash (I.Token k) (first_kind b))
  where
    by : (t : Bool) → (cond t (Some (suc n)) (clash_from (suc n) b) ≡ Some (n + 1)) ⊎ (cond t (Some (suc n)) (clash_from (suc n) b) ≡ clash_from (n + 1) b)
    by true = inl (let e : suc n ≡ n + 1 = omega arith in ap Some e)
    by false = inr (let e : suc n ≡ n + 1 = omega arith in ap (λ m. clash_from m b) e)
seam (token k bs (token j cs r)) b n h = further n (token j cs r) b _ (cond-false _ _ _ h.0) (seam (token j cs r) b (suc n) h.1)
seam (token k bs (form i r)) b n h = further n (form i r) b _ (cond-false _ _ _ h.0) (seam (form i r) b (suc n) h.1)
seam (form i r) b n h = further n r b _ refl (seam r b (suc n) h)

-- what the parts of a chain keep
top_take : (n : ℕ) (t : Tree) → TopApart t → TopApart (take_items n t)
top_take zero t h = tt
top_take (suc n) nil h = tt
top_take (suc n) (form i r) h = top_take n r h
top_take (suc zero) (token k bs r) h = (refl, tt)
top_take (suc (suc n)) (token k bs nil) h = (refl, tt)
top_take (suc (suc n)) (token k bs (token j cs r)) h = (h.0, top_take (suc n) (token j cs r) h.1)
top_take (suc (suc n)) (token k bs (form i r)) h = (h.0, top_take (suc n) (form i r) h.1)

-- a property of trees that holds of a chain where it holds of its items holds of its parts
module _ (P : Tree → Type 0) (none : P nil) (of_token : (k : _) (bs : List ℕ) (r : Tree) → P (token k bs r) → P r) (of_form : (i r : Tree) → P (form i r) → P r) where
  kept_drop : (n : ℕ) (t : Tree) → P t → P (drop_items n t)
  kept_drop zero t h = h
  kept_drop (suc n) nil h = none
  kept_drop (suc n) (token k bs r) h = kept_drop n r (of_token k bs r h)
  kept_drop (suc n) (form i r) h = kept_drop n r (of_form i r h)

top_drop : (n : ℕ) (t : Tree) → TopApart t → TopApart (drop_items n t)
top_drop = kept_drop TopApart tt (λ k bs r h. h.1) (λ i r h. h)

seams : (k n : ℕ) (new c : Tree) (j : ℕ) → TopApart c → TopApart new → k + n ≤ top_items c → first_clash (replaced k n new c) ≡ Some j → (j ≡ k) ⊎ (j ≡ k + top_items new)
seams k n new c j old fresh has h =
    let a = take_items k c in
    let z = drop_items (k + n) c in
    let size = top_items-take k c (omega arith) in
    let last : clash_from (0 + top_items a + top_items new) z ≡ None = clash_none z _ (top_drop (k + n) c old) in
    ⊎_elim
    (λ first. inl (let q : Some (0 + top_items a) ≡ Some j = sym first ∙ h in let e : 0 + top_items a ≡ j = cc in omega arith))
    (λ first.
    ⊎_elim
    (λ second. inr (let q : Some (0 + top_items a + top_items new) ≡ Some j = sym second ∙ sym first ∙ h in let e : 0 + top_items a + top_items new ≡ j = cc in omega arith))
    (λ second. absurd (let q : None ≡ Some j = sym last ∙ sym second ∙ sym first ∙ h in let y : ◌≡◌ {A = ℕ} 0 1 = cc in omega arith))
    (seam new z (0 + top_items a) fresh))
    (seam a (new ⧺ z) 0 (top_take k c old))

-- the chain of a form of a tree, and the chain at a path
inner_apart : (s : ℕ) (t : Tree) → Apart t → Apart (inner s t)
inner_apart zero nil h = tt
inner_apart (suc s) nil h = tt
inner_apart zero (token k bs r) h = tt
inner_apart zero (form i r) h = h.0
inner_apart (suc s) (token k bs r) h = inner_apart s r h.1
inner_apart (suc s) (form i r) h = inner_apart s r h.1

chain_apart : (path : List ℕ) (t : Tree) → Apart t → Apart (chain path t)
chain_apart [] t h = h
chain_apart (s ∷ path) t h = chain_apart path (inner s t) (inner_apart s t h)

pub at_a_seam : (path : List ℕ) (k n : ℕ) (new t : Tree) (j : ℕ) → WellFormed t → WellFormed new → Reaches path k n t → first_clash (replaced k n new (chain path t)) ≡ Some j → (j ≡ k) ⊎ (j ≡ k + top_items new)
at_a_seam path k n new t j w v r h =
    seams k n new (chain path t) j (apart_parts (chain path t) (chain_apart path t w.apart)).0 (apart_parts new v.apart).0 r.has h

-- of whole chains and their parts: tokens, the chains of forms, and depth
obey_⧺ : (a b : Tree) → TokensObey a → TokensObey b → TokensObey (a ⧺ b)
obey_⧺ nil b g h = h
obey_⧺ (token k bs r) b g h = (g.0, g.1, obey_⧺ r b g.2 h)
obey_⧺ (form i r) b g h = (g.0, obey_⧺ r b g.1 h)

obey_parts : (a b : Tree) → TokensObey (a ⧺ b) → TokensObey a × TokensObey b
obey_parts nil b h = (tt, h)
obey_parts (token k bs r) b h = let p = obey_parts r b h.2 in ((h.0, h.1, p.0), p.1)
obey_parts (form i r) b h = let p = obey_parts r b h.1 in ((h.0, p.0), p.1)

inner-⧺ : (a b : Tree) → InnerApart a → InnerApart b → InnerApart (a ⧺ b)
inner-⧺ nil b g h = h
inner-⧺ (token k bs r) b g h = inner-⧺ r b g h
inner-⧺ (form i r) b g h = (g.0, inner-⧺ r b g.1 h)

inner_parts : (a b : Tree) → InnerApart (a ⧺ b) → InnerApart a × InnerApart b
inner_parts nil b h = (tt, h)
inner_parts (token k bs r) b h = inner_parts r b h
inner_parts (form i r) b h = let p = inner_parts r b h.1 in ((h.0, p.0), p.1)

nesting-⧺ : (a b : Tree) → nesting (a ⧺ b) ≡ max (nesting a) (nesting b)
nesting-⧺ nil b = omega arith
nesting-⧺ (token k bs r) b = nesting-⧺ r b
nesting-⧺ (form i r) b = let e = nesting-⧺ r b in omega arith

-- whether neighbours run together depends on their kinds alone, and a form stays a form
top_swap : (a i j r : Tree) → TopApart (a ⧺ form i r) → TopApart (a ⧺ form j r)
top_swap nil i j r h = h
top_swap (token k bs a) i j r h =
    let same = ap first_of (kinds-⧺ a (form i r) ∙ sym (kinds-⧺ a (form j r))) in
    (ap (clash (I.Token k)) (sym same) ∙ h.0, top_swap a i j r h.1)
top_swap (form x a) i j r h = top_swap a i j r h

module _ (k n : ℕ) (new : Tree) where
  obey_edited : (path : List ℕ) (t : Tree) → Leads path t → TokensObey new → TokensObey t → TokensObey (edited path k n new t)
  obey_edited [] t leads fresh h =
      let front = (obey_parts (take_items k t) (drop_items k t) (subst TokensObey (sym (take-drop_items k t)) h)).0 in
      let back = (obey_parts (take_items (k + n) t) (drop_items (k + n) t) (subst TokensObey (sym (take-drop_items (k + n) t)) h)).1 in
      obey_⧺ (take_items k t) (new ⧺ drop_items (k + n) t) front (obey_⧺ new (drop_items (k + n) t) fresh back)
  obey_edited (s ∷ path) t leads fresh h =
      let a = take_items s t in
      let r = drop_items (suc s) t in
      let p = obey_parts a (form (inner s t) r) (subst TokensObey (sym (form_between s t leads.0)) h) in
      obey_⧺ a (form (edited path k n new (inner s t)) r) p.0 (obey_edited path (inner s t) leads.1 fresh p.1.0, p.1.1)

  apart_edited : (path : List ℕ) (t : Tree) → Leads path t → Apart new → Apart t → TopApart (replaced k n new (chain path t)) → Apart (edited path k n new t)
  apart_edited [] t leads fresh h top =
      let inn = (apart_parts t h).1 in
      let front = (inner_parts (take_items k t) (drop_items k t) (subst InnerApart (sym (take-drop_items k t)) inn)).0 in
      let back = (inner_parts (take_items (k + n) t) (drop_items (k + n) t) (subst InnerApart (sym (take-drop_items (k + n) t)) inn)).1 in
      apart_whole (replaced k n new t) top (inner-⧺ (take_items k t) (new ⧺ drop_items (k + n) t) front (inner-⧺ new (drop_items (k + n) t) (apart_parts new fresh).1 back))
  apart_edited (s ∷ path) t leads fresh h top =
      let a = take_items s t in
      let i = inner s t in
      let r = drop_items (suc s) t in
      let p = apart_parts (a ⧺ form i r) (subst Apart (sym (form_between s t leads.0)) h) in
      let q = inner_parts a (form i r) p.1 in
      apart_whole (a ⧺ form (edited path k n new i) r) (top_swap a i (edited path k n new i) r p.0)
      (inner-⧺ a (form (edited path k n new i) r) q.0 (apart_edited path i leads.1 fresh q.1.0 top, q.1.1))

  apart_chain : (path : List ℕ) (t : Tree) → Apart (edited path k n new t) → TopApart (replaced k n new (chain path t))
  apart_chain [] t h = (apart_parts (replaced k n new t) h).0
  apart_chain (s ∷ path) t h =
      let a = take_items s t in
      let r = drop_items (suc s) t in
      apart_chain path (inner s t) (inner_parts a (form (edited path k n new (inner s t)) r) (apart_parts (edited (s ∷ path) k n new t) h).1).1.0

  nesting_edited : (path : List ℕ) (t : Tree) → Leads path t → (nesting (edited path k n new t) ≤ max (nesting t) (length path + nesting new)) × (length path + nesting new ≤ nesting (edited path k n new t))
  nesting_edited [] t leads =
      let a = take_items k t in
      let z = drop_items (k + n) t in
      let front = sym (nesting-⧺ a (drop_items k t)) ∙ ap nesting (take-drop_items k t) in
      let back = sym (nesting-⧺ (take_items (k + n) t) z) ∙ ap nesting (take-drop_items (k + n) t) in
      let whole = nesting-⧺ a (new ⧺ z) in
      let inside = nesting-⧺ new z in
      (omega arith, omega arith)
  nesting_edited (s ∷ path) t leads =
      let a = take_items s t in
      let i = inner s t in
      let r = drop_items (suc s) t in
      let e = edited path k n new i in
      let ih = nesting_edited path i leads.1 in
      let before = sym (nesting-⧺ a (form i r)) ∙ ap nesting (form_between s t leads.0) in
      let after = nesting-⧺ a (form e r) in
      (omega (arith, ih.0), omega (arith, ih.1))

pub well_formed_edit : (path : List ℕ) (k n : ℕ) (new t : Tree) → WellFormed t → WellFormed new → Reaches path k n t → (SoundEdit path k n new t → WellFormed (edited path k n new t)) × (WellFormed (edited path k n new t) → SoundEdit path k n new t)
well_formed_edit path k n new t w v r =
    let deep = nesting_edited k n new path t r.leads in
    let low = deep.0 in
    let high = deep.1 in (
      λ s.
          record {
            tokens = obey_edited k n new path t r.leads v.tokens w.tokens;
            apart = apart_edited k n new path t r.leads v.apart w.apart (none_apart (replaced k n new (chain path t)) 0 s.apart);
            shallow = omega (arith, s.shallow, w.shallow);
          },
      λ x.
          record {
            apart = clash_none (replaced k n new (chain path t)) 0 (apart_chain k n new path t x.apart);
            shallow = omega (arith, x.shallow);
          },
    )
