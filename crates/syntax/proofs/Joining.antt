-- The pieces that are read, joined, are what was read. Assumes nothing.
use Rattle.std.proofs.Common.{◌≡◌, ℕ, ◌+◌, List, [], ◌++◌, take, drop, Ok, sym, ap, ◌∙◌}
use Rattle.std.specs.List.{flat_map}
use Rattle.std.proofs.lemmas.List.{take-append-drop}
use Rattle.syntax.specs.Reading.{Piece, piece, pieces}
use Rattle.syntax.proofs.Walking.{pieces_more, pieces_end, pieces_fault, first_ok, walked}

abbrev bytes_of : List Piece → List ℕ
bytes_of ps = flat_map (λ p. p.bytes) ps

pub pieces_joined : (os : List ℕ) (p : ℕ) (bs : List ℕ) (ps : List Piece) → pieces os p 0 bs ≡ Ok ps → bytes_of ps ≡ bs
pieces_joined =
    walked (λ os p bs. (ps : List Piece) → pieces os p 0 bs ≡ Ok ps → bytes_of ps ≡ bs)
    (λ os p bs e ps h.
    let end = pieces_end os p bs e in
    let none : [] ≡ ps = cc (end.0, h) in
    ap bytes_of (sym none) ∙ sym end.2)
    (λ os p bs f e ps h. absurd (cc (pieces_fault os p bs f e, h)))
    (λ os p bs s e after ps h.
    let n = s.lexeme.len in
    let t = first_ok (piece s.lexeme bs) (pieces s.opens (p + n) 0 (drop n bs)) ps (sym (pieces_more os p bs s e) ∙ h) in
    ap bytes_of t.2 ∙ ap (λ xs. take n bs ++ xs) (after t.0 t.1) ∙ take-append-drop n bs)
