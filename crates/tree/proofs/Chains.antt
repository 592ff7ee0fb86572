-- Chains that are cut and joined. Assumes nothing.
use Rattle.std.proofs.Common.{◌≡◌, ℕ, zero, suc, ◌≤◌, true, ◌∷◌, ◌++◌, sym, refl, ap, ◌∙◌, append_assoc, arith}
use Rattle.std.proofs.lemmas.Bool.{false≢true}
use Rattle.syntax.specs.declared.kind.ItemKind.TheVariants as I
use Rattle.tree.specs.Items.{kinds, top_items, take_items, drop_items, is_form, inner}
use Rattle.tree.specs.Trees.{Tree, nil, token, form, open_byte, close_byte, printed, ◌⧺◌}

pub printed-⧺ : (t u : Tree) → printed (t ⧺ u) ≡ printed t ++ printed u
printed-⧺ nil u = refl
printed-⧺ (token k bs r) u = ap (λ xs. bs ++ xs) (printed-⧺ r u) ∙ sym (append_assoc bs (printed r) (printed u))
printed-⧺ (form i r) u =
    ap (λ xs. open_byte ∷ (printed i ++ close_byte ∷ xs)) (printed-⧺ r u)
    ∙ ap (λ xs. open_byte ∷ xs) (sym (append_assoc (printed i) (close_byte ∷ printed r) (printed u)))

pub kinds-⧺ : (t u : Tree) → kinds (t ⧺ u) ≡ kinds t ++ kinds u
kinds-⧺ nil u = refl
kinds-⧺ (token k bs r) u = ap (λ ks. I.Token k ∷ ks) (kinds-⧺ r u)
kinds-⧺ (form i r) u = ap (λ ks. I.Form ∷ ks) (kinds-⧺ r u)

pub take-drop_items : (n : ℕ) (t : Tree) → take_items n t ⧺ drop_items n t ≡ t
take-drop_items zero t = refl
take-drop_items (suc n) nil = refl
take-drop_items (suc n) (token k bs r) = ap (token k bs) (take-drop_items n r)
take-drop_items (suc n) (form i r) = ap (form i) (take-drop_items n r)

pub top_items-take : (n : ℕ) (t : Tree) → n ≤ top_items t → top_items (take_items n t) ≡ n
top_items-take zero t h = refl
top_items-take (suc n) nil h = absurd (omega arith)
top_items-take (suc n) (token k bs r) h = ap suc (top_items-take n r (omega arith))
top_items-take (suc n) (form i r) h = ap suc (top_items-take n r (omega arith))

-- a form stands between the items before it and those after it
pub form_between : (s : ℕ) (t : Tree) → is_form s t ≡ true → take_items s t ⧺ form (inner s t) (drop_items (suc s) t) ≡ t
form_between zero nil h = absurd (false≢true h)
form_between (suc s) nil h = absurd (false≢true h)
form_between zero (token k bs r) h = absurd (false≢true h)
form_between zero (form i r) h = refl
form_between (suc s) (token k bs r) h = ap (token k bs) (form_between s r h)
form_between (suc s) (form i r) h = ap (form i) (form_between s r h)

-- item n, and the items after it
pub item_then_rest : (n : ℕ) (t : Tree) → take_items 1 (drop_items n t) ⧺ drop_items (suc n) t ≡ drop_items n t
item_then_rest zero nil = refl
item_then_rest zero (token k bs r) = refl
item_then_rest zero (form i r) = refl
item_then_rest (suc n) nil = refl
item_then_rest (suc n) (token k bs r) = item_then_rest n r
item_then_rest (suc n) (form i r) = item_then_rest n r
