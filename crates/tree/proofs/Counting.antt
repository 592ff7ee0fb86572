-- The census of an accepted text counts its tree. Assumes nothing.
use Rattle.std.proofs.Common.{◌≡◌, ℕ, suc, ◌+◌, ◌-◌, max, Bool, false, cond, eqb, List, [], ◌∷◌, ◌++◌, length, Ok, count_by, sym, refl, ap, ◌∙◌, append_assoc, append-nil, arith}
use Rattle.std.proofs.lemmas.List.Sums.{sum_by-cons, sum_by-append}
use Rattle.std.proofs.lemmas.Bool.{cond-false, ne_eqb}
use Rattle.syntax.specs.Census.{is_token_of, is_token, is_open, begins_item, at_top, begun, top_kinds, first_of, last_of, deepest, census_of, census}
use Rattle.syntax.specs.Reading.{Piece, then}
use Rattle.syntax.specs.declared.kind.ItemKind.TheVariants as I
use Rattle.syntax.specs.declared.kind.Kind.TheVariants as K
use Rattle.syntax.specs.declared.lexeme.LexemeKind.{LexemeKind}
use Rattle.syntax.specs.declared.lexeme.LexemeKind.TheVariants as L
use Rattle.syntax.proofs.Counting.{same_census, deepest_above}
use Rattle.tree.specs.Counts.{tally, counts}
use Rattle.tree.specs.Items.{kinds}
use Rattle.tree.specs.Reading.{tree_read, flat}
use Rattle.tree.specs.Trees.{Tree, nil, token, form, open_byte, close_byte}
use Rattle.tree.specs.WellFormed.{nesting}
use Rattle.tree.proofs.Accepting.{accepting}
use Rattle.tree.proofs.Rereading.{reading-printed}

abbrev opening : Piece
opening = record { kind = L.Open; bytes = open_byte ∷ [] }

abbrev shutting : Piece
shutting = record { kind = L.Close; bytes = close_byte ∷ [] }

-- counting pieces that pass a test, and adding up over the tree, is the same
tally-flat : (f : LexemeKind → Bool) → f L.Close ≡ false → (t : Tree) → count_by (λ p. f p.kind) (flat t) ≡ tally (λ k. cond (f (L.Token k)) 1 0) (cond (f L.Open) 1 0) t
tally-flat f none nil = refl
tally-flat f none (token k bs r) = sum_by-cons (λ p. cond (f p.kind) 1 0) (record { kind = L.Token k; bytes = bs }) (flat r) ∙ ap (λ n. cond (f (L.Token k)) 1 0 + n) (tally-flat f none r)
tally-flat f none (form i r) =
    let one : Piece → ℕ = λ p. cond (f p.kind) 1 0 in
    let inside = tally-flat f none i in
    let behind = tally-flat f none r in
    let none_closed : cond {A = ℕ} (f L.Close) 1 0 ≡ 0 = cond-false (f L.Close) 1 0 none in
    omega (arith, sum_by-cons one opening (flat i ++ shutting ∷ flat r), sum_by-append one (flat i) (shutting ∷ flat r), sum_by-cons one shutting (flat r))

inside_none : (d : ℕ) (k : LexemeKind) → at_top (suc d) k ≡ []
inside_none d k = cond-false (eqb (suc d) 0) (begun k) [] (ne_eqb (suc d) 0 (λ e. omega arith))

-- inside a form nothing is at the top
top_inside : (t : Tree) (d : ℕ) (ps : List Piece) → top_kinds (suc d) (flat t ++ ps) ≡ top_kinds (suc d) ps
top_inside nil d ps = refl
top_inside (token k bs r) d ps = ap (λ ks. ks ++ top_kinds (suc d) (flat r ++ ps)) (inside_none d (L.Token k)) ∙ top_inside r d ps
top_inside (form i r) d ps =
    let up : suc d + 1 ≡ suc (suc d) = omega arith in
    let down : suc (suc d) - 1 ≡ suc d = omega arith in
    ap (λ ks. ks ++ top_kinds (suc d + 1) ((flat i ++ shutting ∷ flat r) ++ ps)) (inside_none d L.Open)
    ∙ (λ j. top_kinds (up j) (append_assoc (flat i) (shutting ∷ flat r) ps j))
    ∙ top_inside i (suc d) (shutting ∷ (flat r ++ ps))
    ∙ ap (λ ks. ks ++ top_kinds (suc (suc d) - 1) (flat r ++ ps)) (inside_none (suc d) L.Close)
    ∙ ap (λ e. top_kinds e (flat r ++ ps)) down
    ∙ top_inside r d ps

top_flat : (t : Tree) (ps : List Piece) → top_kinds 0 (flat t ++ ps) ≡ kinds t ++ top_kinds 0 ps
top_flat nil ps = refl
top_flat (token k bs r) ps = ap (λ ks. I.Token k ∷ ks) (top_flat r ps)
top_flat (form i r) ps =
    ap (λ ks. I.Form ∷ ks) (
    ap (top_kinds 1) (append_assoc (flat i) (shutting ∷ flat r) ps)
    ∙ top_inside i 0 (shutting ∷ (flat r ++ ps))
    ∙ top_flat r ps
    )

deepest_flat : (t : Tree) (d : ℕ) (ps : List Piece) → deepest d (flat t ++ ps) ≡ max (d + nesting t) (deepest d ps)
deepest_flat nil d ps = omega (arith, deepest_above d ps)
deepest_flat (token k bs r) d ps = let rest = deepest_flat r d ps in omega arith
deepest_flat (form i r) d ps =
    let down : d + 1 - 1 ≡ d = omega arith in
    let apart = ap (deepest (d + 1)) (append_assoc (flat i) (shutting ∷ flat r) ps) in
    let inside = deepest_flat i (d + 1) (shutting ∷ (flat r ++ ps)) in
    let back = ap (λ e. deepest e (flat r ++ ps)) down in
    let behind = deepest_flat r d ps in
    omega arith

census-flat : (t : Tree) → census_of (flat t) ≡ counts t
census-flat t =
    let tops = ap (top_kinds 0) (sym (append-nil (flat t))) ∙ top_flat t [] ∙ append-nil (kinds t) in
    same_census (census_of (flat t)) (counts t)
    (tally-flat (is_token_of K.LineEnd) refl t)
    (tally-flat (is_token_of K.Blank) refl t)
    (tally-flat (is_token_of K.Word) refl t)
    (tally-flat (is_token_of K.Quoted) refl t)
    (tally-flat (is_token_of K.Comment) refl t)
    (tally-flat is_token refl t)
    (tally-flat is_open refl t)
    (tally-flat begins_item refl t)
    (ap length tops) (ap first_of tops) (ap last_of tops)
    (ap (deepest 0) (sym (append-nil (flat t))) ∙ deepest_flat t 0 [] ∙ omega arith)

pub counting : (text : List ℕ) (t : Tree) → tree_read text ≡ Ok t → census text ≡ Ok (counts t)
counting text t h =
    let a = accepting text t h in
    ap census (sym a.1) ∙ ap (λ r. then r (λ ps. Ok (census_of ps))) (reading-printed t a.0) ∙ ap Ok (census-flat t)
