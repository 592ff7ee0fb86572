-- Printing an edited tree, and the places of items. Assumes nothing.
use Rattle.std.proofs.Common.{◌≡◌, ℕ, suc, ◌+◌, Bool, true, false, cond, List, [], ◌∷◌, ◌++◌, length, take, drop, sym, refl, ap, ◌∙◌, append_assoc, arith}
use Rattle.std.proofs.lemmas.List.{take_at, drop_at}
use Rattle.std.proofs.lemmas.Bool.{cond-true}
use Rattle.tree.specs.Edits.{Leads, followed, chain, before, place, edited}
use Rattle.tree.specs.Items.{take_items, drop_items, is_form, inner, item}
use Rattle.tree.specs.Laws.{Reaches}
use Rattle.tree.specs.Trees.{Tree, form, open_byte, close_byte, printed, width, ◌⧺◌}
use Rattle.tree.proofs.Chains.{printed-⧺, take-drop_items, form_between, item_then_rest}

-- the bytes of the print from item n of the chain at the path on
abbrev after : List ℕ → ℕ → Tree → List ℕ
after [] n t = printed (drop_items n t)
after (s ∷ path) n t = after path n (inner s t) ++ close_byte ∷ printed (drop_items (suc s) t)

-- a form between two parts of a chain, printed
printed_between : (a i r : Tree) → printed (a ⧺ form i r) ≡ printed a ++ open_byte ∷ (printed i ++ close_byte ∷ printed r)
printed_between a i r = printed-⧺ a (form i r)

pub split : (path : List ℕ) (n : ℕ) (t : Tree) → Leads path t → printed t ≡ before path n t ++ after path n t
split [] n t h = ap printed (sym (take-drop_items n t)) ∙ printed-⧺ (take_items n t) (drop_items n t)
split (s ∷ path) n t h =
    let a = take_items s t in
    let i = inner s t in
    let r = drop_items (suc s) t in
    ap printed (sym (form_between s t h.0))
    ∙ printed_between a i r
    ∙ ap (λ xs. printed a ++ open_byte ∷ (xs ++ close_byte ∷ printed r)) (split path n i h.1)
    ∙ ap (λ xs. printed a ++ open_byte ∷ xs) (append_assoc (before path n i) (after path n i) (close_byte ∷ printed r))
    ∙ sym (append_assoc (printed a) (open_byte ∷ before path n i) (after path n i ++ close_byte ∷ printed r))

printed-edited : (path : List ℕ) (k n : ℕ) (new t : Tree) → Leads path t → printed (edited path k n new t) ≡ before path k t ++ (printed new ++ after path (k + n) t)
printed-edited [] k n new t h =
    printed-⧺ (take_items k t) (new ⧺ drop_items (k + n) t) ∙ ap (λ xs. printed (take_items k t) ++ xs) (printed-⧺ new (drop_items (k + n) t))
printed-edited (s ∷ path) k n new t h =
    let a = take_items s t in
    let i = inner s t in
    let r = drop_items (suc s) t in
    let tail = close_byte ∷ printed r in
    printed_between a (edited path k n new i) r
    ∙ ap (λ xs. printed a ++ open_byte ∷ (xs ++ tail)) (printed-edited path k n new i h.1)
    ∙ ap (λ xs. printed a ++ open_byte ∷ xs) (append_assoc (before path k i) (printed new ++ after path (k + n) i) tail ∙ ap (λ xs. before path k i ++ xs) (append_assoc (printed new) (after path (k + n) i) tail))
    ∙ sym (append_assoc (printed a) (open_byte ∷ before path k i) (printed new ++ (after path (k + n) i ++ tail)))

pub take-place : (path : List ℕ) (n : ℕ) (t : Tree) → Leads path t → take (place path n t) (printed t) ≡ before path n t
take-place path n t h = ap (take (place path n t)) (split path n t h) ∙ take_at (before path n t) (after path n t) (place path n t) refl

drop-place : (path : List ℕ) (n : ℕ) (t : Tree) → Leads path t → drop (place path n t) (printed t) ≡ after path n t
drop-place path n t h = ap (drop (place path n t)) (split path n t h) ∙ drop_at (before path n t) (after path n t) (place path n t) refl

pub editing : (path : List ℕ) (k n : ℕ) (new t : Tree) → Reaches path k n t → printed (edited path k n new t) ≡ take (place path k t) (printed t) ++ (printed new ++ drop (place path (k + n) t) (printed t))
editing path k n new t h =
    printed-edited path k n new t h.leads
    ∙ (λ j. sym (take-place path k t h.leads) j ++ (printed new ++ sym (drop-place path (k + n) t h.leads) j))

-- the bytes from an item on begin with the item's own
after_item : (path : List ℕ) (k : ℕ) (t : Tree) → after path k t ≡ printed (item k (chain path t)) ++ after path (suc k) t
after_item [] k t = ap printed (sym (item_then_rest k t)) ∙ printed-⧺ (item k t) (drop_items (suc k) t)
after_item (s ∷ path) k t =
    let i = inner s t in
    let tail = close_byte ∷ printed (drop_items (suc s) t) in
    ap (λ xs. xs ++ tail) (after_item path k i) ∙ append_assoc (printed (item k (chain path i))) (after path (suc k) i) tail

pub item_at_place : (path : List ℕ) (k : ℕ) (t : Tree) → Reaches path k 1 t → take (width (item k (chain path t))) (drop (place path k t) (printed t)) ≡ printed (item k (chain path t))
item_at_place path k t h =
    let x = item k (chain path t) in
    ap (take (width x)) (drop-place path k t h.leads ∙ after_item path k t) ∙ take_at (printed x) (after path (suc k) t) (width x) refl

leads_followed : (path : List ℕ) (t : Tree) → Leads path t → followed path t ≡ length path
leads_followed [] t h = refl
leads_followed (s ∷ path) t h = cond-true (is_form s t) _ _ h.0 ∙ ap suc (leads_followed path (inner s t) h.1)

followed_leads : (path : List ℕ) (t : Tree) → followed path t ≡ length path → Leads path t
followed_leads [] t h = tt
followed_leads (s ∷ path) t h = by (is_form s t) refl h (followed_leads path (inner s t))
  where
    by : (b : Bool) → is_form s t ≡ b → cond b (suc (followed path (inner s t))) 0 ≡ suc (length path) → (followed path (inner s t) ≡ length path → Leads path (inner s t)) → (is_form s t ≡ true) × Leads path (inner s t)
    by true e h rest = (e, rest (omega arith))
    by false e h rest = absurd (omega arith)

pub whole_paths : (path : List ℕ) (t : Tree) → (Leads path t → followed path t ≡ length path) × (followed path t ≡ length path → Leads path t)
whole_paths path t = (leads_followed path t, followed_leads path t)
