-- A reader that goes on until the form it is in is closed. Assumes nothing.
use Rattle.std.proofs.Common.{◌≡◌, ℕ, zero, suc, ◌+◌, ◌-◌, ◌<◌, ◌≤◌, List, [], length, IfOk, Ok, Err, Result, sym, refl, ap, ◌∙◌, arith, MatchResult}
use Rattle.syntax.specs.Census.{depth_after}
use Rattle.syntax.specs.Readers.{text_of, place_of, opens_of, left}
use Rattle.syntax.specs.Reading.{Piece, then, first}
use Rattle.syntax.specs.declared.fault.ReadFault.{ReadFault}
use Rattle.syntax.specs.declared.lexeme.Lexeme.{Lexeme}
use Rattle.syntax.specs.declared.lexeme.LexemeKind.{LexemeKind}
use Rattle.syntax.specs.declared.lexeme.LexemeKind.TheVariants as L
use Rattle.syntax.specs.declared.reader.Reader.{Reader}
use Rattle.syntax.proofs.Onward.{Onward}
use Rattle.inspect.specs.Outlines.{until}

-- the reader r has gone on from where `start` stood, inside that many forms, and the form is not closed yet or just now
pub record Going (start r : Reader) (inside : ℕ) : Type 0 where
  pub same : text_of r ≡ text_of start
  pub after : place_of start ≤ place_of r
  pub whole : then (left r) (λ qs. Ok (place_of r + until (length (opens_of r) + 1 - inside) qs)) ≡ then (left start) (λ ps. Ok (place_of start + until 1 ps))
  pub deep : inside ≤ length (opens_of r) + 1

pub going_start : (r : Reader) (inside : ℕ) → inside ≡ length (opens_of r) → Going r r inside
going_start r inside e =
    record {
      same = refl;
      after = omega arith;
      whole = (let one : length (opens_of r) + 1 - inside ≡ 1 = omega arith in ap (λ n. then (left r) (λ qs. Ok (place_of r + until n qs))) one);
      deep = omega arith;
    }

-- how many forms are to be closed, after a lexeme inside them
still_open : (d inside now : ℕ) (k : LexemeKind) → inside ≤ d → now ≡ depth_after d k → (k ≡ L.Close → 0 < d) → depth_after (d + 1 - inside) k ≡ now + 1 - inside
still_open d inside now L.Open h e c = omega arith
still_open d inside now L.Close h e c = let some = c refl in omega arith
still_open d inside now (L.Token k) h e c = omega arith

until_more : (m p n : ℕ) (q : Piece) (x : Result (List Piece) ReadFault) → 0 < m → length q.bytes ≡ n → then (first q x) (λ qs. Ok (p + until m qs)) ≡ then x (λ qs. Ok (p + n + until (depth_after m q.kind) qs))
until_more zero p n q x h e = absurd (omega arith)
until_more (suc m) p n q (Ok qs) h e = (let sum : p + (length q.bytes + until (depth_after (suc m) q.kind) qs) ≡ p + n + until (depth_after (suc m) q.kind) qs = omega arith in ap Ok sum)
until_more (suc m) p n q (Err f) h e = refl

pub going_more : (start r after : Reader) (inside : ℕ) (l : Lexeme) → Going start r inside → inside ≤ length (opens_of r) → Onward r after l → Going start after inside
going_more start r after inside l g h o =
    let d = length (opens_of r) in
    let moved = o.place in
    let depth = o.depth in
    let back = g.after in
    record {
      same = o.text ∙ g.same;
      after = omega arith;
      whole =
          (λ i. then (left after) (λ qs. Ok (moved i + until (sym (still_open d inside (length (opens_of after)) l.kind h depth o.closes) i) qs)))
          ∙ sym (until_more (d + 1 - inside) (place_of r) l.len (record { kind = l.kind; bytes = o.bytes }) (left after) (omega arith) o.long)
          ∙ ap (λ x. then x (λ qs. Ok (place_of r + until (d + 1 - inside) qs))) (sym o.left_is)
          ∙ g.whole;
      deep = deeper d inside (length (opens_of after)) l.kind h depth;
    }
  where
    deeper : (d inside now : ℕ) (k : LexemeKind) → inside ≤ d → now ≡ depth_after d k → inside ≤ now + 1
    deeper d inside now L.Open h e = omega arith
    deeper d inside now L.Close h e = omega arith
    deeper d inside now (L.Token k) h e = omega arith

-- what is told of the whole, where the count is at an end
told : (n m p : ℕ) (x y : Result (List Piece) ReadFault) → then x (λ qs. Ok (p + until n qs)) ≡ then y (λ ps. Ok (m + until 1 ps)) → ((qs : List Piece) → x ≡ Ok qs → until n qs ≡ 0) → (ps : List Piece) → y ≡ Ok ps → p ≡ m + until 1 ps
told n m p (Ok qs) y e none ps h =
    let z = none qs refl in
    let q : Ok (p + until n qs) ≡ Ok (m + until 1 ps) = e ∙ ap (λ r. then r (λ ps. Ok (m + until 1 ps))) h in
    let r : p + until n qs ≡ m + until 1 ps = cc in
    omega arith
told n m p (Err f) y e none ps h =
    absurd (let q : Err f ≡ Ok (m + until 1 ps) = e ∙ ap (λ r. then r (λ ps. Ok (m + until 1 ps))) h in cc)

until_nothing : (n : ℕ) → until n [] ≡ 0
until_nothing zero = refl
until_nothing (suc n) = refl

pub going_end : (start r : Reader) (inside : ℕ) → Going start r inside → left r ≡ Ok [] → (ps : List Piece) → left start ≡ Ok ps → place_of r ≡ place_of start + until 1 ps
going_end start r inside g h =
    told _ (place_of start) (place_of r) (left r) (left start) g.whole
    (λ qs e. let none : [] ≡ qs = cc (h, e) in ap (until (length (opens_of r) + 1 - inside)) (sym none) ∙ until_nothing _)

pub going_fault : (start r : Reader) (inside : ℕ) (f : ReadFault) → Going start r inside → left r ≡ Err f → left start ≡ Err f
going_fault start r inside f g h = by (left start) (ap (λ x. then x (λ qs. Ok (place_of r + until (length (opens_of r) + 1 - inside) qs))) (sym h) ∙ g.whole)
  where
    by : (y : Result (List Piece) ReadFault) → Err f ≡ then y (λ ps. Ok (place_of start + until 1 ps)) → y ≡ Err f
    by (Ok ps) e = absurd cc
    by (Err g) e = cc

-- both clauses of `form_end`, of a fault
pub refused_end : (start : Reader) (r : Result ℕ ReadFault) (f : ReadFault) → r ≡ Err f → left start ≡ Err f → record { end : MatchResult r (λ n. (ps : List Piece) → left start ≡ Ok ps → n ≡ place_of start + until 1 ps) (λ g. left start ≡ Err g); within : IfOk r (λ n. place_of start ≤ n) }
refused_end start (Ok n) f e h = absurd cc
refused_end start (Err g) f e h = record { end = (let q : f ≡ g = cc in h ∙ ap Err q); within = tt }
