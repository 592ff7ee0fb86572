-- What is live keeps its tree. Assumes nothing.
use Rattle.std.proofs.Common.{◌≡◌, ℕ, ◌<◌, true, ltb, List, [], ◌∷◌, Some, None, Option, sym, refl, ap, ◌∙◌, subst, arith}
use Rattle.syntax.specs.declared.kind.Kind.{Kind}
use Rattle.tree.specs.Trees.{Tree, nil, token, form}
use Rattle.std.proofs.lemmas.List.{get_or-map}
use Rattle.pool.specs.Cells.{live, held, vacant}
use Rattle.pool.specs.Counts.{entry, slot, named}
use Rattle.pool.specs.declared.cell.Slot.{Slot}
use Rattle.pool.proofs.Counting.{named_cells_are_live}
use Rattle.pool.proofs.Fitting.{live_within}
use Rattle.forest.specs.declared.cells.Head.{Head}
use Rattle.forest.specs.declared.cells.Head.TheVariants as H
use Rattle.forest.specs.Blanks.{blank_token, blank_link}
use Rattle.forest.specs.Slots.{tokens, links, then, head_slots}
use Rattle.forest.specs.States.{State, ledger, link_slots, token_slots, spare, Covers, Kept}
use Rattle.forest.specs.Unfolding.{link_at, token_at, Spells, IsToken, IsForm, Unfolds}
use Rattle.forest.proofs.Moving.{page_count}
use Rattle.forest.proofs.Letting.{named_more, one_self}

module _ (st : State) (covers : Covers st) where
  -- what a live link names is live, in the ledger
  named_live : (n : ℕ) (s : Slot) → live (link_at st n) ≡ true → 0 < named (link_slots (link_at st n).cell) s → live (entry (ledger st) s) ≡ true
  named_live n s alive names =
      let told : entry (ledger st) (slot links n) ≡ held (link_at st n).count (link_slots (link_at st n).cell) =
      get_or-map (λ c. held c.count (link_slots c.cell)) st.links n (vacant blank_link) (vacant []) (live_within blank_link st.links n alive) in
      named_cells_are_live (ledger st) (spare st) (λ u. omega (arith, covers u)) (slot links n) s (ap live told ∙ alive) (subst (λ e. 0 < named e.cell s) (sym told) names)

  link_lives : (m : ℕ) → live (entry (ledger st) (slot links m)) ≡ true → live (link_at st m) ≡ true
  link_lives m alive = sym (ap (ltb 0) (page_count link_slots blank_link st.links (ledger st) 1 (omega arith) refl m)) ∙ alive

  token_lives : (m : ℕ) → live (entry (ledger st) (slot tokens m)) ≡ true → live (token_at st m) ≡ true
  token_lives m alive = sym (ap (ltb 0) (page_count token_slots blank_token st.tokens (ledger st) 0 (omega arith) refl m)) ∙ alive

  abbrev pub FirstLives : Option ℕ → Type 0
  FirstLives None = Unit {0}
  FirstLives (Some m) = live (link_at st m) ≡ true

  abbrev pub HeadLives : Head → Type 0
  HeadLives (H.Token m) = live (token_at st m) ≡ true
  HeadLives (H.Form m) = live (link_at st m) ≡ true
  HeadLives H.EmptyForm = Unit {0}

  -- what a live link's head and tail name is live
  module _ (n : ℕ) (alive : live (link_at st n) ≡ true) where
    pub head_lives : (hd : Head) → (link_at st n).cell.head ≡ hd → HeadLives hd
    head_lives (H.Token m) is =
        let tail = then links (link_at st n).cell.tail [] in
        let names : named (link_slots (link_at st n).cell) (slot tokens m) ≡ named (slot tokens m ∷ tail) (slot tokens m) = ap (λ hd. named (head_slots hd tail) (slot tokens m)) is in
        token_lives m (named_live n (slot tokens m) alive (omega (arith, names, named_more (slot tokens m) tail (slot tokens m), one_self 0 m)))
    head_lives (H.Form m) is =
        let tail = then links (link_at st n).cell.tail [] in
        let names : named (link_slots (link_at st n).cell) (slot links m) ≡ named (slot links m ∷ tail) (slot links m) = ap (λ hd. named (head_slots hd tail) (slot links m)) is in
        link_lives m (named_live n (slot links m) alive (omega (arith, names, named_more (slot links m) tail (slot links m), one_self 1 m)))
    head_lives H.EmptyForm is = tt

    behind_head : (hd : Head) (m : ℕ) → 0 < named (head_slots hd (slot links m ∷ [])) (slot links m)
    behind_head (H.Token x) m = omega (arith, named_more (slot tokens x) (slot links m ∷ []) (slot links m), one_self 1 m)
    behind_head (H.Form x) m = omega (arith, named_more (slot links x) (slot links m ∷ []) (slot links m), one_self 1 m)
    behind_head H.EmptyForm m = omega (arith, one_self 1 m)

    pub tail_lives : (tl : Option ℕ) → (link_at st n).cell.tail ≡ tl → FirstLives tl
    tail_lives None is = tt
    tail_lives (Some m) is =
        link_lives m (named_live n (slot links m) alive (subst (λ tl. 0 < named (head_slots (link_at st n).cell.head (then links tl [])) (slot links m)) (sym is) (behind_head (link_at st n).cell.head m)))

module _ (before after : State) (covers : Covers after) (kept_t : Kept blank_token before.tokens after.tokens) (kept_l : Kept blank_link before.links after.links) where
  token_stays : (k : Kind) (bs : List ℕ) (hd : Head) → HeadLives after covers hd → IsToken before k bs hd → IsToken after k bs hd
  token_stays k bs (H.Token m) lives is = (lives, subst (λ c. Spells c k bs) (sym (kept_t m lives).1) is.1)
  token_stays k bs (H.Form m) lives is = absurd is
  token_stays k bs H.EmptyForm lives is = absurd is

  form_stays : (inner : Tree) → ((first : Option ℕ) → FirstLives after covers first → Unfolds before first inner → Unfolds after first inner) → (hd : Head) → HeadLives after covers hd → IsForm (λ first. Unfolds before first inner) hd → IsForm (λ first. Unfolds after first inner) hd
  form_stays inner stays (H.Token m) lives is = absurd is
  form_stays inner stays (H.Form m) lives is = stays (Some m) lives is
  form_stays inner stays H.EmptyForm lives is = stays None tt is

  tree_stays : (t : Tree) (first : Option ℕ) → FirstLives after covers first → Unfolds before first t → Unfolds after first t
  tree_stays nil None lives u = tt
  tree_stays nil (Some n) lives u = absurd u
  tree_stays (token k bs rest) None lives u = absurd u
  tree_stays (token k bs rest) (Some n) lives u =
      let same = (kept_l n lives).1 in
      let old = (link_at before n).cell in (
        lives,
        ap (λ c. c.width) same ∙ u.1,
        subst (IsToken after k bs) (sym (ap (λ c. c.head) same)) (token_stays k bs old.head (head_lives after covers n lives old.head (ap (λ c. c.head) same)) u.2),
        subst (λ first. Unfolds after first rest) (sym (ap (λ c. c.tail) same)) (tree_stays rest old.tail (tail_lives after covers n lives old.tail (ap (λ c. c.tail) same)) u.3),
      )
  tree_stays (form inner rest) None lives u = absurd u
  tree_stays (form inner rest) (Some n) lives u =
      let same = (kept_l n lives).1 in
      let old = (link_at before n).cell in (
        lives,
        ap (λ c. c.width) same ∙ u.1,
        subst (IsForm (λ first. Unfolds after first inner)) (sym (ap (λ c. c.head) same)) (form_stays inner (tree_stays inner) old.head (head_lives after covers n lives old.head (ap (λ c. c.head) same)) u.2),
        subst (λ first. Unfolds after first rest) (sym (ap (λ c. c.tail) same)) (tree_stays rest old.tail (tail_lives after covers n lives old.tail (ap (λ c. c.tail) same)) u.3),
      )

  pub live_chain_stays : (n : ℕ) (t : Tree) → live (link_at after n) ≡ true → Unfolds before (Some n) t → Unfolds after (Some n) t
  live_chain_stays n t lives u = tree_stays t (Some n) lives u

-- a chain has one tree
module _ (st : State) where
  same_token : (k l : Kind) (bs cs : List ℕ) (hd : Head) → IsToken st k bs hd → IsToken st l cs hd → (k ≡ l) × (bs ≡ cs)
  same_token k l bs cs (H.Token m) a b = (sym a.1.2 ∙ b.1.2, sym a.1.3 ∙ b.1.3)
  same_token k l bs cs (H.Form m) a b = absurd a
  same_token k l bs cs H.EmptyForm a b = absurd a

  not_both : (k : Kind) (bs : List ℕ) (P : Option ℕ → Type 0) (hd : Head) → IsToken st k bs hd → IsForm P hd → ⊥
  not_both k bs P (H.Token m) a b = b
  not_both k bs P (H.Form m) a b = a
  not_both k bs P H.EmptyForm a b = a

  same_form : (t u : Tree) → ((first : Option ℕ) → Unfolds st first t → Unfolds st first u → t ≡ u) → (hd : Head) → IsForm (λ first. Unfolds st first t) hd → IsForm (λ first. Unfolds st first u) hd → t ≡ u
  same_form t u one (H.Token m) a b = absurd a
  same_form t u one (H.Form m) a b = one (Some m) a b
  same_form t u one H.EmptyForm a b = one None a b

  pub one_tree : (t u : Tree) (first : Option ℕ) → Unfolds st first t → Unfolds st first u → t ≡ u
  one_tree nil nil first a b = refl
  one_tree nil (token k bs rest) None a b = absurd b
  one_tree nil (token k bs rest) (Some n) a b = absurd a
  one_tree nil (form inner rest) None a b = absurd b
  one_tree nil (form inner rest) (Some n) a b = absurd a
  one_tree (token k bs rest) u None a b = absurd a
  one_tree (form inner rest) u None a b = absurd a
  one_tree (token k bs rest) nil (Some n) a b = absurd b
  one_tree (token k bs rest) (token l cs rest') (Some n) a b =
      let same = same_token k l bs cs (link_at st n).cell.head a.2 b.2 in
      let behind = one_tree rest rest' (link_at st n).cell.tail a.3 b.3 in
      (λ i. token (same.0 i) (same.1 i) (behind i))
  one_tree (token k bs rest) (form inner rest') (Some n) a b = absurd (not_both k bs (λ first. Unfolds st first inner) (link_at st n).cell.head a.2 b.2)
  one_tree (form inner rest) nil (Some n) a b = absurd b
  one_tree (form inner rest) (token l cs rest') (Some n) a b = absurd (not_both l cs (λ first. Unfolds st first inner) (link_at st n).cell.head b.2 a.2)
  one_tree (form inner rest) (form inner' rest') (Some n) a b =
      let within = same_form inner inner' (one_tree inner inner') (link_at st n).cell.head a.2 b.2 in
      let behind = one_tree rest rest' (link_at st n).cell.tail a.3 b.3 in
      (λ i. form (within i) (behind i))

  pub one_chain_one_tree : (n : ℕ) (t u : Tree) → Unfolds st (Some n) t → Unfolds st (Some n) u → t ≡ u
  one_chain_one_tree n t u a b = one_tree t u (Some n) a b
