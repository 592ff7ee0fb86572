-- The lines for the items of a text, piece by piece and as a tree. Assumes nothing.
use Rattle.std.proofs.Common.{◌≡◌, ℕ, suc, ◌+◌, ◌-◌, ◌≤◌, List, [], ◌∷◌, ◌++◌, length, drop, Ok, Err, Result, sym, refl, ap, ◌∙◌, append_assoc, append-nil, arith}
use Rattle.std.proofs.lemmas.List.{length-append}
use Rattle.syntax.specs.Census.{depth_after}
use Rattle.syntax.specs.Readers.{text_of, place_of, opens_of, left}
use Rattle.syntax.specs.Reading.{Piece, then, first, pieces, reading}
use Rattle.syntax.specs.declared.fault.ReadFault.{ReadFault}
use Rattle.syntax.specs.declared.lexeme.Lexeme.{Lexeme}
use Rattle.syntax.specs.declared.lexeme.LexemeKind.TheVariants as L
use Rattle.syntax.specs.declared.reader.Reader.{Reader}
use Rattle.syntax.proofs.Onward.{Onward}
use Rattle.tree.specs.Reading.{tree_of, flat}
use Rattle.tree.specs.Trees.{Tree, nil, token, form, open_byte, close_byte, printed, width}
use Rattle.tree.proofs.Accepting.{accepting}
use Rattle.tree.proofs.Rereading.{reading-printed}
use Rattle.inspect.specs.Outlines.{token_line, form_line, tree_lines, outlined, until, line_by, piece_line, Told}
use Rattle.inspect.specs.declared.outline.OutlineFault.{OutlineFault}
use Rattle.inspect.specs.declared.outline.OutlineFault.TheVariants.{Memory, Read}

-- the lines for the items of ps, which begins at place p, inside d forms
abbrev piece-lines : ℕ → ℕ → List Piece → List ℕ
piece-lines d p [] = []
piece-lines d p (q ∷ qs) = piece_line d p q qs ++ piece-lines (depth_after d q.kind) (p + length q.bytes) qs

abbrev opening : Piece
opening = record { kind = L.Open; bytes = open_byte ∷ [] }

abbrev shutting : Piece
shutting = record { kind = L.Close; bytes = close_byte ∷ [] }

width_form : (i r : Tree) → width (form i r) ≡ width i + 2 + width r
width_form i r = omega (arith, length-append (printed i) (close_byte ∷ printed r))

-- inside forms that are open, the whole of a tree comes before what closes them
until_flat : (t : Tree) (n : ℕ) (ps : List Piece) → until (suc n) (flat t ++ ps) ≡ width t + until (suc n) ps
until_flat nil n ps = omega arith
until_flat (token k bs r) n ps = omega (arith, until_flat r n ps, length-append bs (printed r))
until_flat (form i r) n ps =
    let up : suc n + 1 ≡ suc (suc n) = omega arith in
    let down : suc (suc n) - 1 ≡ suc n = omega arith in
    let split : until (suc n + 1) ((flat i ++ shutting ∷ flat r) ++ ps) ≡ until (suc (suc n)) (flat i ++ (shutting ∷ (flat r ++ ps))) = (λ j. until (up j) (append_assoc (flat i) (shutting ∷ flat r) ps j)) in
    let inside = until_flat i (suc n) (shutting ∷ (flat r ++ ps)) in
    let back = ap (λ m. until m (flat r ++ ps)) down in
    let behind = until_flat r n ps in
    let whole = width_form i r in
    omega arith

form_size : (i r : Tree) (ps : List Piece) → 1 + until 1 ((flat i ++ shutting ∷ flat r) ++ ps) ≡ width i + 2
form_size i r ps =
    let split = ap (until 1) (append_assoc (flat i) (shutting ∷ flat r) ps) in
    let inside = until_flat i 0 (shutting ∷ (flat r ++ ps)) in
    omega arith

lines-flat : (t : Tree) (d p : ℕ) (ps : List Piece) → piece-lines d p (flat t ++ ps) ≡ tree_lines d p t ++ piece-lines d (p + width t) ps
lines-flat nil d p ps = let e : p ≡ p + 0 = omega arith in ap (λ q. piece-lines d q ps) e
lines-flat (token k bs r) d p ps =
    let e : p + length bs + width r ≡ p + width (token k bs r) = omega (arith, length-append bs (printed r)) in
    ap (λ xs. token_line d k p bs ++ xs) (lines-flat r d (p + length bs) ps ∙ ap (λ q. tree_lines d (p + length bs) r ++ piece-lines d q ps) e)
    ∙ sym (append_assoc (token_line d k p bs) (tree_lines d (p + length bs) r) (piece-lines d (p + width (token k bs r)) ps))
lines-flat (form i r) d p ps =
    let down : d + 1 - 1 ≡ d = omega arith in
    let behind : p + 1 + width i + 1 ≡ p + (width i + 2) = omega arith in
    let end : p + (width i + 2) + width r ≡ p + width (form i r) = omega (arith, width_form i r) in
    let top = form_line d p (width i + 2) in
    let inside = tree_lines (d + 1) (p + 1) i in
    let rest = tree_lines d (p + (width i + 2)) r in
    let more = piece-lines d (p + width (form i r)) ps in
    (λ j. form_line d p (form_size i r ps j) ++ piece-lines (d + 1) (p + 1) (append_assoc (flat i) (shutting ∷ flat r) ps j))
    ∙ ap (λ xs. top ++ xs) (
    lines-flat i (d + 1) (p + 1) (shutting ∷ (flat r ++ ps))
    ∙ ap (λ xs. inside ++ xs) (
    (λ j. piece-lines (down j) (behind j) (flat r ++ ps))
    ∙ lines-flat r d (p + (width i + 2)) ps
    ∙ ap (λ q. rest ++ piece-lines d q ps) end
    )
    ∙ sym (append_assoc inside rest more)
    )
    ∙ sym (append_assoc top (inside ++ rest) more)

-- by pieces or by the tree, the outline of a text is the same
by_pieces : (text : List ℕ) → then (reading text) (λ ps. Ok (piece-lines 0 0 ps)) ≡ outlined text
by_pieces text = by (reading text) refl
  where
    by : (r : Result (List Piece) ReadFault) → reading text ≡ r → then r (λ ps. Ok (piece-lines 0 0 ps)) ≡ then (then r (λ ps. Ok (tree_of ps))) (λ t. Ok (tree_lines 0 0 t))
    by (Err f) e = refl
    by (Ok ps) e =
        let t = tree_of ps in
        let a = accepting text t (ap (λ r. then r (λ qs. Ok (tree_of qs))) e) in
        let same : Ok ps ≡ Ok (flat t) = sym e ∙ ap reading (sym a.1) ∙ reading-printed t a.0 in
        let flat_is : ps ≡ flat t = cc in
        ap Ok (ap (piece-lines 0 0) (flat_is ∙ sym (append-nil (flat t))) ∙ lines-flat t 0 0 [] ∙ append-nil (tree_lines 0 0 t))

-- the reader r has read a part of the text, and out has the lines for that part
pub record Listing (text : List ℕ) (r : Reader) (out : List ℕ) : Type 0 where
  pub same : text_of r ≡ text
  pub place : place_of r ≤ length text
  pub whole : then (left r) (λ ps. Ok (out ++ piece-lines (length (opens_of r)) (place_of r) ps)) ≡ outlined text

pub listing_start : (text : List ℕ) (r : Reader) (out : List ℕ) → text_of r ≡ text → place_of r ≡ 0 → opens_of r ≡ [] → out ≡ [] → Listing text r out
listing_start text r out same start none empty =
    record {
      same = same;
      place = omega arith;
      whole = (λ j. then (pieces (none j) (start j) 0 (drop (start j) (same j))) (λ ps. Ok (empty j ++ piece-lines (length (none j)) (start j) ps))) ∙ by_pieces text;
    }

pub listing_more : (text : List ℕ) (r after : Reader) (out longer bytes : List ℕ) (l : Lexeme) → Listing text r out → (o : Onward r after l) → bytes ≡ o.bytes → ((qs : List Piece) → left after ≡ Ok qs → longer ≡ out ++ line_by l.kind (length (opens_of r)) (place_of r) bytes qs) → Listing text after longer
listing_more text r after out longer bytes l g o b line =
    let within = o.within in
    let same = ap length g.same in
    record {
      same = o.text ∙ g.same;
      place = omega arith;
      whole =
          (λ j. then (left after) (λ ps. Ok (longer ++ piece-lines (o.depth j) ((o.place ∙ ap (λ n. p + n) (sym o.long)) j) ps)))
          ∙ by (left after) refl
          ∙ ap (λ x. then x (λ ps. Ok (out ++ piece-lines d p ps))) (sym o.left_is)
          ∙ g.whole;
    }
  where
    d : ℕ
    d = length (opens_of r)

    p : ℕ
    p = place_of r

    q : Piece
    q = record { kind = l.kind; bytes = o.bytes }

    by : (x : Result (List Piece) ReadFault) → left after ≡ x → then x (λ ps. Ok (longer ++ piece-lines (depth_after (length (opens_of r)) l.kind) (place_of r + length o.bytes) ps)) ≡ then (first (record { kind = l.kind; bytes = o.bytes }) x) (λ ps. Ok (out ++ piece-lines (length (opens_of r)) (place_of r) ps))
    by (Err f) e = refl
    by (Ok qs) e =
        ap Ok (
        ap (λ xs. xs ++ piece-lines (depth_after (length (opens_of r)) l.kind) (place_of r + length o.bytes) qs) (line qs e ∙ ap (λ bs. out ++ line_by l.kind (length (opens_of r)) (place_of r) bs qs) b)
        ∙ append_assoc out (line_by l.kind (length (opens_of r)) (place_of r) o.bytes qs) (piece-lines (depth_after (length (opens_of r)) l.kind) (place_of r + length o.bytes) qs)
        )

pub listing_end : (text : List ℕ) (r : Reader) (out : List ℕ) → Listing text r out → left r ≡ Ok [] → outlined text ≡ Ok out
listing_end text r out g h = sym g.whole ∙ ap (λ x. then x (λ ps. Ok (out ++ piece-lines (length (opens_of r)) (place_of r) ps))) h ∙ ap Ok (append-nil out)

pub listing_fault : (text : List ℕ) (r : Reader) (out : List ℕ) (f : ReadFault) → Listing text r out → left r ≡ Err f → outlined text ≡ Err f
listing_fault text r out f g h = sym g.whole ∙ ap (λ x. then x (λ ps. Ok (out ++ piece-lines (length (opens_of r)) (place_of r) ps))) h

-- a fault behind a lexeme is the fault before it
pub fault_before : (r after : Reader) (l : Lexeme) (f : ReadFault) → Onward r after l → left after ≡ Err f → left r ≡ Err f
fault_before r after l f o h = o.left_is ∙ ap (first (record { kind = l.kind; bytes = o.bytes })) h

pub told_weaker : (e : OutlineFault) (P Q : ReadFault → Type 0) → ((f : ReadFault) → P f → Q f) → Told e P → Told e Q
told_weaker Memory P Q weaker h = tt
told_weaker (Read f) P Q weaker h = weaker f h
