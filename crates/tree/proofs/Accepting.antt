-- An accepted text's tree is well formed, and prints as that text. Assumes nothing.
use Rattle.std.proofs.Common.{◌≡◌, ℕ, suc, ◌+◌, ◌≤◌, List, [], ◌∷◌, ◌++◌, length, take, drop, Ok, Err, Result, sym, refl, ap, ◌∙◌, subst, append_assoc, append-nil, arith}
use Rattle.std.specs.List.{AllByRecursion}
use Rattle.std.proofs.lemmas.List.{take-append-drop}
use Rattle.syntax.specs.Lexemes.{Longest, Stops}
use Rattle.syntax.specs.Limits.{nesting_limit}
use Rattle.syntax.specs.Reading.{Piece, then, opened, piece, pieces, reading}
use Rattle.syntax.specs.declared.fault.ReadFault.{ReadFault}
use Rattle.syntax.specs.declared.lexeme.LexemeKind.{LexemeKind}
use Rattle.syntax.specs.declared.lexeme.LexemeKind.TheVariants as L
use Rattle.syntax.proofs.Walking.{taken, pieces_more, pieces_end, pieces_fault, first_ok, walked, length-opened, opened_shallow}
use Rattle.tree.specs.Reading.{Stack, closed_over, put, built, tree_of, tree_read}
use Rattle.tree.specs.Trees.{Tree, open_byte, close_byte, printed}
use Rattle.tree.specs.WellFormed.{nesting, TokensObey, Apart, WellFormed}
use Rattle.tree.proofs.Starts.{apart_from_stops, open_bytes, close_bytes}

-- the chains behind the one at hand, printed: each follows a close byte
abbrev behind_print : List Tree → List ℕ
behind_print [] = []
behind_print (u ∷ us) = close_byte ∷ (printed u ++ behind_print us)

-- each chain is as shallow as the number of forms around it allows
abbrev Shallow : List Tree → Type 0
Shallow [] = Unit {0}
Shallow (u ∷ us) = (nesting u + length us ≤ nesting_limit) × Shallow us

-- the chains of a part of a text that begins where d forms are open
record Made (d : ℕ) (s : Stack) (bs : List ℕ) : Type 0 where
  behind : length s.behind ≡ d
  prints : printed s.chain ++ behind_print s.behind ≡ bs
  tokens : AllByRecursion TokensObey (s.chain ∷ s.behind)
  apart : AllByRecursion Apart (s.chain ∷ s.behind)
  shallow : Shallow (s.chain ∷ s.behind)

module _ (n : ℕ) (bs : List ℕ) where
  made_token : (d : ℕ) (s : Stack) (k : _) → Longest (L.Token k) n bs → Made d s (drop n bs) → Made d (put (L.Token k) (take n bs) s) bs
  made_token d s k l m =
      record {
        behind = m.behind;
        prints = append_assoc (take n bs) (printed s.chain) (behind_print s.behind) ∙ ap (λ xs. take n bs ++ xs) m.prints ∙ take-append-drop n bs;
        tokens = ((l.rule.0, l.rule.1, m.tokens.0), m.tokens.1);
        apart = ((apart_from_stops k s.chain (behind_print s.behind) m.tokens.0 (subst (Stops (L.Token k)) (sym m.prints) l.stops), m.apart.0), m.apart.1);
        shallow = m.shallow;
      }

  made_close : (d : ℕ) (s : Stack) → suc d ≤ nesting_limit → Longest L.Close n bs → Made d s (drop n bs) → Made (suc d) (put L.Close (take n bs) s) bs
  made_close d s fits l m =
      record {
        behind = ap suc m.behind;
        prints = ap (λ xs. close_byte ∷ xs) m.prints ∙ ap (λ xs. xs ++ drop n bs) (sym (close_bytes (take n bs) l.rule)) ∙ take-append-drop n bs;
        tokens = (tt, m.tokens);
        apart = (tt, m.apart);
        shallow = (omega (arith, m.behind), m.shallow);
      }

  made_open : (d : ℕ) (t : Tree) (us : List Tree) → Longest L.Open n bs → Made (d + 1) (record { chain = t; behind = us }) (drop n bs) → Made d (closed_over t us) bs
  made_open d t [] l m = absurd (omega (arith, m.behind))
  made_open d t (u ∷ us) l m =
      let deep = m.behind in
      record {
        behind = omega arith;
        prints =
            ap (λ xs. open_byte ∷ xs) (append_assoc (printed t) (close_byte ∷ printed u) (behind_print us))
            ∙ ap (λ xs. open_byte ∷ xs) m.prints
            ∙ ap (λ xs. xs ++ drop n bs) (sym (open_bytes (take n bs) l.rule))
            ∙ take-append-drop n bs;
        tokens = ((m.tokens.0, m.tokens.1.0), m.tokens.1.1);
        apart = ((m.apart.0, m.apart.1.0), m.apart.1.1);
        shallow = (let a = m.shallow.0 in let b = m.shallow.1.0 in omega arith, m.shallow.1.1);
      }

  made_put : (os now : List ℕ) (p : ℕ) (k : LexemeKind) (s : Stack) → length os ≤ nesting_limit → opened os p k ≡ Ok now → Longest k n bs → Made (length now) s (drop n bs) → Made (length os) (put k (take n bs) s) bs
  made_put os now p L.Open s fits e l m =
      made_open (length os) s.chain s.behind l (subst (λ d. Made d s (drop n bs)) (length-opened os p L.Open now e) m)
  made_put [] now p L.Close s fits e l m = absurd cc
  made_put (o ∷ os) now p L.Close s fits e l m =
      let q : os ≡ now = cc in made_close (length os) s fits l (subst (λ xs. Made (length xs) s (drop n bs)) (sym q) m)
  made_put os now p (L.Token k) s fits e l m = let q : os ≡ now = cc in made_token (length os) s k l (subst (λ xs. Made (length xs) s (drop n bs)) (sym q) m)

pieces_made : (os : List ℕ) (p : ℕ) (bs : List ℕ) → length os ≤ nesting_limit → (ps : List Piece) → pieces os p 0 bs ≡ Ok ps → Made (length os) (built ps) bs
pieces_made =
    walked (λ os p bs. length os ≤ nesting_limit → (ps : List Piece) → pieces os p 0 bs ≡ Ok ps → Made (length os) (built ps) bs)
    (λ os p bs e fits ps h.
    let end = pieces_end os p bs e in
    let none : [] ≡ ps = cc (end.0, h) in
    subst (λ qs. Made (length os) (built qs) bs) none
    (record { behind = sym (ap length end.1); prints = sym end.2; tokens = (tt, tt); apart = (tt, tt); shallow = (omega arith, tt) }))
    (λ os p bs f e fits ps h. absurd (cc (pieces_fault os p bs f e, h)))
    (λ os p bs s e after fits ps h.
    let n = s.lexeme.len in
    let t = taken os p bs s e in
    let f = first_ok (piece s.lexeme bs) (pieces s.opens (p + n) 0 (drop n bs)) ps (sym (pieces_more os p bs s e) ∙ h) in
    subst (λ qs. Made (length os) (built qs) bs) (sym f.2)
    (made_put n bs os s.opens p s.lexeme.kind (built f.0) fits t.brackets t.longest
    (after (opened_shallow os p s.lexeme.kind s.opens fits t.brackets) f.0 f.1)))

-- with no form open, the one chain is the text's
whole : (text : List ℕ) (t : Tree) (us : List Tree) → Made 0 (record { chain = t; behind = us }) text → WellFormed t × (printed t ≡ text)
whole text t [] m = (
  record { tokens = m.tokens.0; apart = m.apart.0; shallow = let s = m.shallow.0 in omega arith },
  sym (append-nil (printed t)) ∙ m.prints,
)
whole text t (u ∷ us) m = absurd (omega (arith, m.behind))

pub accepting : (text : List ℕ) (t : Tree) → tree_read text ≡ Ok t → WellFormed t × (printed t ≡ text)
accepting text t h = by (reading text) refl h
  where
    by : (r : Result (List Piece) ReadFault) → reading text ≡ r → then r (λ ps. Ok (tree_of ps)) ≡ Ok t → WellFormed t × (printed t ≡ text)
    by (Ok ps) e h =
        let q : tree_of ps ≡ t = cc in
        subst (λ u. WellFormed u × (printed u ≡ text)) q (whole text (tree_of ps) (built ps).behind (pieces_made [] 0 text (omega arith) ps e))
    by (Err f) e h = absurd cc
