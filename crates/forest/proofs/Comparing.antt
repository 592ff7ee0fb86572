-- Two chains that are compared link by link. Assumes nothing.
use Rattle.std.proofs.Common.{◌≡◌, ℕ, ◌<◌, ◌≤◌, Bool, true, false, not, ◌&&◌, List, [], ◌∷◌, ◌++◌, length, is_some, Some, None, Option, sym, refl, ap, ◌∙◌, subst, arith}
use Rattle.std.proofs.lemmas.Bool.{false≢true}
use Rattle.std.proofs.lemmas.List.{length-append}
use Rattle.syntax.specs.declared.kind.Kind.{Kind}
use Rattle.tree.specs.Trees.{Tree, nil, token, form, printed, width}
use Rattle.forest.specs.declared.cells.Head.{Head}
use Rattle.forest.specs.declared.cells.Head.TheVariants as H
use Rattle.forest.specs.declared.cells.Link.{Link}
use Rattle.forest.specs.States.{State}
use Rattle.forest.specs.Unfolding.{link_at, token_at, IsToken, IsForm, Unfolds, chain_width}
use Rattle.forest.specs.Comparing.{Alike, Compares, HasTree}
use Rattle.forest.proofs.Framing.{one_tree}
use Rattle.forest.proofs.Printing.{form_there, width_told}

-- the chains agree so far: they are the same where what is left is
pub record Agreeing (st : State) (left right one other : Option ℕ) : Type 0 where
  pub t : Tree
  pub u : Tree
  pub v : Tree
  pub w : Tree
  pub of_left : Unfolds st left t
  pub of_right : Unfolds st right u
  pub of_one : Unfolds st one v
  pub of_other : Unfolds st other w
  pub up : v ≡ w → t ≡ u
  pub down : t ≡ u → v ≡ w
  pub near : chain_width st one ≤ chain_width st left

pub agree : (st : State) (left right : Option ℕ) → HasTree st left → HasTree st right → Agreeing st left right left right
agree st left right l r =
    record { t = l.0; u = r.0; v = l.0; w = r.0; of_left = l.1; of_right = r.1; of_one = l.1; of_other = r.1; up = λ e. e; down = λ e. e; near = omega arith }

-- the first items of two trees are the same
abbrev pub SameFirst : Tree → Tree → Type 0
SameFirst nil w = ⊥
SameFirst (token k bs rest) nil = ⊥
SameFirst (token k bs rest) (token l cs rest') = (k ≡ l) × (bs ≡ cs)
SameFirst (token k bs rest) (form inner rest') = ⊥
SameFirst (form inner rest) nil = ⊥
SameFirst (form inner rest) (token l cs rest') = ⊥
SameFirst (form inner rest) (form inner' rest') = inner ≡ inner'

abbrev behind : Tree → Tree
behind nil = nil
behind (token k bs rest) = rest
behind (form inner rest) = rest

rejoined : (v w : Tree) → SameFirst v w → behind v ≡ behind w → v ≡ w
rejoined nil w same e = absurd same
rejoined (token k bs rest) nil same e = absurd same
rejoined (token k bs rest) (token l cs rest') same e = (λ i. token (same.0 i) (same.1 i) (e i))
rejoined (token k bs rest) (form inner rest') same e = absurd same
rejoined (form inner rest) nil same e = absurd same
rejoined (form inner rest) (token l cs rest') same e = absurd same
rejoined (form inner rest) (form inner' rest') same e = (λ i. form (same i) (e i))

module _ (st : State) where
  -- no tree is that of an empty chain and of another
  mixed : (n : ℕ) (v : Tree) → Unfolds st None v → Unfolds st (Some n) v → ⊥
  mixed n nil a b = b
  mixed n (token k bs rest) a b = a
  mixed n (form inner rest) a b = a

  own_first : (n : ℕ) (v : Tree) → Unfolds st (Some n) v → SameFirst v v
  own_first n nil u = absurd u
  own_first n (token k bs rest) u = (refl, refl)
  own_first n (form inner rest) u = refl

  equal_first : (n : ℕ) (v w : Tree) → Unfolds st (Some n) v → v ≡ w → SameFirst v w
  equal_first n v w u e = subst (SameFirst v) e (own_first n v u)

  of_behind : (n : ℕ) (v : Tree) → Unfolds st (Some n) v → Unfolds st (link_at st n).cell.tail (behind v)
  of_behind n nil u = absurd u
  of_behind n (token k bs rest) u = u.3
  of_behind n (form inner rest) u = u.3

  module _ (left right : Option ℕ) where
    -- what a comparison answers, from trees of the two chains
    told : (r : Bool) (t u : Tree) → Unfolds st left t → Unfolds st right u → (r ≡ true → t ≡ u) → (t ≡ u → r ≡ true) → Compares st left right r
    told r t u a b up down t' u' a' b' =
        let one = one_tree st t' t left a' a in
        let other = one_tree st u' u right b' b in
        (λ e. one ∙ up e ∙ sym other, λ e. down (sym one ∙ e ∙ other))

    pub met : (m n : ℕ) → Agreeing st left right (Some m) (Some n) → m ≡ n → Compares st left right true
    met m n p e =
        let same = one_tree st p.v p.w (Some m) p.of_one (subst (λ k. Unfolds st (Some k) p.w) (sym e) p.of_other) in
        told true p.t p.u p.of_left p.of_right (λ _. p.up same) (λ _. refl)

    pub parted : (m n : ℕ) (p : Agreeing st left right (Some m) (Some n)) → (SameFirst p.v p.w → ⊥) → Compares st left right false
    parted m n p apart =
        told false p.t p.u p.of_left p.of_right (λ e. absurd (false≢true e)) (λ e. absurd (apart (equal_first m p.v p.w p.of_one (p.down e))))

    behind_shorter : (v : Tree) → width (behind v) ≤ width v
    behind_shorter nil = omega arith
    behind_shorter (token k bs rest) = omega (arith, length-append bs (printed rest))
    behind_shorter (form inner rest) = omega (arith, length-append (printed inner) (41 ∷ printed rest))

    pub stepped : (m n : ℕ) (p : Agreeing st left right (Some m) (Some n)) → SameFirst p.v p.w → Agreeing st left right (link_at st m).cell.tail (link_at st n).cell.tail
    stepped m n p same =
        let rest = of_behind m p.v p.of_one in
        record {
          t = p.t;
          u = p.u;
          v = behind p.v;
          w = behind p.w;
          of_left = p.of_left;
          of_right = p.of_right;
          of_one = rest;
          of_other = of_behind n p.w p.of_other;
          up = λ e. p.up (rejoined p.v p.w same e);
          down = λ e. ap behind (p.down e);
          near = omega (arith, p.near, behind_shorter p.v, width_told st (Some m) p.v p.of_one, width_told st (link_at st m).cell.tail (behind p.v) rest);
        }

    -- one chain or both have ended
    pub ended : (one other : Option ℕ) → Agreeing st left right one other → ((m n : ℕ) → one ≡ Some m → other ≡ Some n → ⊥) → (r : Bool) → r ≡ (not (is_some one) && not (is_some other)) → Compares st left right r
    ended None None p over r e = told r p.t p.u p.of_left p.of_right (λ _. p.up (one_tree st p.v p.w None p.of_one p.of_other)) (λ _. e)
    ended None (Some n) p over r e =
        told r p.t p.u p.of_left p.of_right (λ h. absurd (false≢true (sym e ∙ h))) (λ same. absurd (mixed n p.w (subst (Unfolds st None) (p.down same) p.of_one) p.of_other))
    ended (Some m) None p over r e =
        told r p.t p.u p.of_left p.of_right (λ h. absurd (false≢true (sym e ∙ h))) (λ same. absurd (mixed m p.v (subst (Unfolds st None) (sym (p.down same)) p.of_other) p.of_one))
    ended (Some m) (Some n) p over r e = absurd (over m n refl refl)

    -- the end of a walk, by what two tests say
    twice : (b : Bool) → not (not b) ≡ b
    twice true = refl
    twice false = refl

    pub ended_first : (one other : Option ℕ) → Agreeing st left right one other → ((m n : ℕ) → one ≡ Some m → other ≡ Some n → ⊥) → (r : Bool) → is_some one ≡ false → is_some other ≡ not r → Compares st left right r
    ended_first one other p over r e f = ended one other p over r (sym (λ i. not (e i) && (ap not f ∙ twice r) i))

    pub ended_second : (one other : Option ℕ) → Agreeing st left right one other → ((m n : ℕ) → one ≡ Some m → other ≡ Some n → ⊥) → (r : Bool) → r ≡ false → is_some one ≡ not r → Compares st left right r
    ended_second one other p over r e f = ended one other p over r (e ∙ sym (ap (λ b. b && not (is_some other)) (ap not f ∙ twice r ∙ e)))

    -- two links that are compared, as they were read
    module _ (one other : Option ℕ) (m n : ℕ) (a b : Link) (inv : Agreeing st left right one other) (e : one ≡ Some m) (f : other ≡ Some n) (reads_a : a ≡ (link_at st m).cell) (reads_b : b ≡ (link_at st n).cell) where
      pub here : Agreeing st left right (Some m) (Some n)
      here = subst (λ o. Agreeing st left right (Some m) o) f (subst (λ o. Agreeing st left right o other) e inv)

      pub on : SameFirst here.v here.w → Agreeing st left right a.tail b.tail
      on same =
          subst (λ l. Agreeing st left right l.tail b.tail) (sym reads_a) (subst (λ l. Agreeing st left right (link_at st m).cell.tail l.tail) (sym reads_b) (stepped m n here same))

  module _ (m n : ℕ) (v w : Tree) (a : Unfolds st (Some m) v) (b : Unfolds st (Some n) w) where
    -- tokens are the same where their cells are alike
    pub tokens_alike : (x y : ℕ) → (link_at st m).cell.head ≡ H.Token x → (link_at st n).cell.head ≡ H.Token y → (Alike (token_at st x).cell (token_at st y).cell → SameFirst v w) × (SameFirst v w → Alike (token_at st x).cell (token_at st y).cell)
    tokens_alike x y e f = by v w a b
      where
        by : (v w : Tree) → Unfolds st (Some m) v → Unfolds st (Some n) w → (Alike (token_at st x).cell (token_at st y).cell → SameFirst v w) × (SameFirst v w → Alike (token_at st x).cell (token_at st y).cell)
        by nil w a b = absurd a
        by (token k bs rest) nil a b = absurd b
        by (token k bs rest) (token l cs rest') a b =
            let one = (subst (IsToken st k bs) e a.2).1 in
            let other = (subst (IsToken st l cs) f b.2).1 in
            (λ alike. (sym one.2 ∙ alike.0 ∙ other.2, sym one.3 ∙ alike.2 ∙ other.3), λ same. (one.2 ∙ same.0 ∙ sym other.2, sym one.4 ∙ ap length same.1 ∙ other.4, one.3 ∙ same.1 ∙ sym other.3))
        by (token k bs rest) (form inner rest') a b = absurd (subst (IsForm (λ first. Unfolds st first inner)) f b.2)
        by (form inner rest) w a b = absurd (subst (IsForm (λ first. Unfolds st first inner)) e a.2)

    -- forms are the same where their chains are
    pub forms_alike : (x y : ℕ) → (link_at st m).cell.head ≡ H.Form x → (link_at st n).cell.head ≡ H.Form y → (r : Bool) → Compares st (Some x) (Some y) r → (r ≡ true → SameFirst v w) × (SameFirst v w → r ≡ true)
    forms_alike x y e f r told = by v w a b
      where
        by : (v w : Tree) → Unfolds st (Some m) v → Unfolds st (Some n) w → (r ≡ true → SameFirst v w) × (SameFirst v w → r ≡ true)
        by nil w a b = absurd a
        by (token k bs rest) w a b = absurd (subst (IsToken st k bs) e a.2)
        by (form inner rest) nil a b = absurd b
        by (form inner rest) (token l cs rest') a b = absurd (subst (IsToken st l cs) f b.2)
        by (form inner rest) (form inner' rest') a b =
            told inner inner' (subst (IsForm (λ first. Unfolds st first inner)) e a.2) (subst (IsForm (λ first. Unfolds st first inner')) f b.2)

    pub empties_alike : (link_at st m).cell.head ≡ H.EmptyForm → (link_at st n).cell.head ≡ H.EmptyForm → SameFirst v w
    empties_alike e f = by v w a b
      where
        by : (v w : Tree) → Unfolds st (Some m) v → Unfolds st (Some n) w → SameFirst v w
        by nil w a b = absurd a
        by (token k bs rest) w a b = absurd (subst (IsToken st k bs) e a.2)
        by (form inner rest) nil a b = absurd b
        by (form inner rest) (token l cs rest') a b = absurd (subst (IsToken st l cs) f b.2)
        by (form inner rest) (form inner' rest') a b =
            one_tree st inner inner' None (subst (IsForm (λ first. Unfolds st first inner)) e a.2) (subst (IsForm (λ first. Unfolds st first inner')) f b.2)

    -- heads of different kinds are of different items
    pub tokens_apart : (x : ℕ) → (link_at st m).cell.head ≡ H.Token x → ((y : ℕ) → (link_at st n).cell.head ≡ H.Token y → ⊥) → SameFirst v w → ⊥
    tokens_apart x e apart = by v w a b
      where
        is : (k : Kind) (bs : List ℕ) (hd : Head) → (link_at st n).cell.head ≡ hd → IsToken st k bs hd → ⊥
        is k bs (H.Token y) f h = apart y f
        is k bs (H.Form y) f h = h
        is k bs H.EmptyForm f h = h

        by : (v w : Tree) → Unfolds st (Some m) v → Unfolds st (Some n) w → SameFirst v w → ⊥
        by nil w a b same = a
        by (token k bs rest) nil a b same = b
        by (token k bs rest) (token l cs rest') a b same = is l cs (link_at st n).cell.head refl b.2
        by (token k bs rest) (form inner rest') a b same = same
        by (form inner rest) w a b same = subst (IsForm (λ first. Unfolds st first inner)) e a.2

    pub forms_apart : (x : ℕ) → (link_at st m).cell.head ≡ H.Form x → ((y : ℕ) → (link_at st n).cell.head ≡ H.Form y → ⊥) → SameFirst v w → ⊥
    forms_apart x e apart = by v w a b
      where
        is : (inner inner' : Tree) → inner ≡ inner' → Unfolds st (Some x) inner → (hd : Head) → (link_at st n).cell.head ≡ hd → IsForm (λ first. Unfolds st first inner') hd → ⊥
        is inner inner' same g (H.Token y) f h = h
        is inner inner' same g (H.Form y) f h = apart y f
        is inner inner' same g H.EmptyForm f h = mixed x inner' h (subst (Unfolds st (Some x)) same g)

        by : (v w : Tree) → Unfolds st (Some m) v → Unfolds st (Some n) w → SameFirst v w → ⊥
        by nil w a b same = a
        by (token k bs rest) w a b same = subst (IsToken st k bs) e a.2
        by (form inner rest) nil a b same = b
        by (form inner rest) (token l cs rest') a b same = same
        by (form inner rest) (form inner' rest') a b same = is inner inner' same (subst (IsForm (λ first. Unfolds st first inner)) e a.2) (link_at st n).cell.head refl b.2

    pub empties_apart : (link_at st m).cell.head ≡ H.EmptyForm → ((link_at st n).cell.head ≡ H.EmptyForm → ⊥) → SameFirst v w → ⊥
    empties_apart e apart = by v w a b
      where
        is : (inner inner' : Tree) → inner ≡ inner' → Unfolds st None inner → (hd : Head) → (link_at st n).cell.head ≡ hd → IsForm (λ first. Unfolds st first inner') hd → ⊥
        is inner inner' same g (H.Token y) f h = h
        is inner inner' same g (H.Form y) f h = mixed y inner' (subst (Unfolds st None) same g) h
        is inner inner' same g H.EmptyForm f h = apart f

        by : (v w : Tree) → Unfolds st (Some m) v → Unfolds st (Some n) w → SameFirst v w → ⊥
        by nil w a b same = a
        by (token k bs rest) w a b same = subst (IsToken st k bs) e a.2
        by (form inner rest) nil a b same = b
        by (form inner rest) (token l cs rest') a b same = same
        by (form inner rest) (form inner' rest') a b same = is inner inner' same (subst (IsForm (λ first. Unfolds st first inner)) e a.2) (link_at st n).cell.head refl b.2

    -- the chain in a form has a tree, and is shorter
    pub inside : (x : ℕ) → (link_at st m).cell.head ≡ H.Form x → HasTree st (Some x) × (chain_width st (Some x) < chain_width st (Some m))
    inside x e =
        let there = form_there st m x v a e in
        ((there.inner, there.of_inner), omega (arith, width_told st (Some m) v a, width_told st (Some x) there.inner there.of_inner, ap length there.prints, length-append (40 ∷ (printed there.inner ++ (41 ∷ []))) (printed there.behind), length-append (printed there.inner) (41 ∷ [])))
