-- A reader that goes on by one lexeme, comes to the end or meets a fault. Assumes nothing.
use Rattle.std.proofs.Common.{◌≡◌, ℕ, ◌+◌, ◌-◌, ◌<◌, ◌≤◌, List, [], ◌∷◌, length, take, drop, Some, None, Ok, Err, Option, Result, sym, refl, ap, ◌∙◌, subst, arith}
use Rattle.std.proofs.lemmas.List.{length-drop, length-take-le, drop-drop}
use Rattle.syntax.specs.Census.{depth_after}
use Rattle.syntax.specs.Readers.{text_of, place_of, opens_of, left, next, Next}
use Rattle.syntax.specs.Reading.{Step, first, opened, piece, pieces}
use Rattle.syntax.specs.declared.fault.ReadFault.{ReadFault}
use Rattle.syntax.specs.declared.lexeme.Lexeme.{Lexeme}
use Rattle.syntax.specs.declared.lexeme.LexemeKind.{LexemeKind}
use Rattle.syntax.specs.declared.lexeme.LexemeKind.TheVariants as L
use Rattle.syntax.specs.declared.reader.Reader.{Reader}
use Rattle.syntax.proofs.Walking.{taken, pieces_more, pieces_end, pieces_fault, length-opened, met_some, met_none, met_fault}

-- what a reader has before it, from what it met
abbrev met : Reader → Result (Option Step) ReadFault
met r = next (opens_of r) (place_of r) (drop (place_of r) (text_of r))

-- a reader that has gone on by one lexeme
pub record Onward (r after : Reader) (l : Lexeme) : Type 0 where
  pub bytes : List ℕ
  pub bytes_are : bytes ≡ take l.len (drop (place_of r) (text_of r))
  pub long : length bytes ≡ l.len
  pub left_is : left r ≡ first (record { kind = l.kind; bytes = bytes }) (left after)
  pub text : text_of after ≡ text_of r
  pub place : place_of after ≡ place_of r + l.len
  pub some : 0 < l.len
  pub within : place_of after ≤ length (text_of r)
  pub depth : length (opens_of after) ≡ depth_after (length (opens_of r)) l.kind
  pub closes : (l.kind ≡ L.Close) → 0 < length (opens_of r)

close_open : (os : List ℕ) (p : ℕ) (k : LexemeKind) (now : List ℕ) → opened os p k ≡ Ok now → k ≡ L.Close → 0 < length os
close_open os p k now h e = by os (subst (λ j. opened os p j ≡ Ok now) e h)
  where
    by : (xs : List ℕ) → opened xs p L.Close ≡ Ok now → 0 < length xs
    by [] h = absurd cc
    by (x ∷ xs) h = omega arith

pub onward : (r after : Reader) (x : Result (Option Lexeme) ReadFault) (l : Lexeme) → Next (met r) r x after → x ≡ Ok (Some l) → Onward r after l
onward r after x l h e =
    let os = opens_of r in
    let p = place_of r in
    let bs = drop p (text_of r) in
    let m = met_some (met r) r after x l h e in
    let s = m.0 in
    let goes = m.3 in
    let t = taken os p bs s m.1 in
    let n = s.lexeme.len in
    let more = t.longest.some in
    let inside = t.longest.within in
    let long = length-drop p (text_of r) in
    let moved = goes.place in
    subst (Onward r after) m.2
    (record {
      bytes = take n bs;
      bytes_are = refl;
      long = length-take-le n bs inside;
      left_is =
          pieces_more os p bs s m.1
          ∙ ap (first (piece s.lexeme bs)) (
          ap (pieces s.opens (p + n) 0) (drop-drop n p (text_of r))
          ∙ (λ i. pieces (sym goes.opens i) (sym moved i) 0 (drop (sym moved i) (sym goes.text i)))
          );
      text = goes.text;
      place = moved;
      some = more;
      within = omega arith;
      depth = ap length goes.opens ∙ length-opened os p s.lexeme.kind s.opens t.brackets;
      closes = close_open os p s.lexeme.kind s.opens t.brackets;
    })

-- less of the text is left
pub onward_less : (text : List ℕ) (r after : Reader) (l : Lexeme) → text_of r ≡ text → Onward r after l → (place_of after ≤ length text) × (length text - place_of after < length text - place_of r)
onward_less text r after l e o =
    let moved = o.place in
    let some = o.some in
    let within = o.within in
    let same = ap length e in
    (omega arith, omega arith)

pub left_end : (r after : Reader) (x : Result (Option Lexeme) ReadFault) → Next (met r) r x after → x ≡ Ok None → left r ≡ Ok []
left_end r after x h e = (pieces_end (opens_of r) (place_of r) (drop (place_of r) (text_of r)) (met_none (met r) r after x h e)).0

-- at the end the reader stays
pub end_stays : (before after : Reader) (r : Result (Option Lexeme) ReadFault) → Next (met before) before r after → r ≡ Ok None → place_of after ≡ place_of before
end_stays before after r h e = by (met before) h
  where
    by : (x : Result (Option Step) ReadFault) → Next x before r after → place_of after ≡ place_of before
    by (Ok (Some s)) h = absurd (cc (h.0, e))
    by (Ok None) h = h.1.place
    by (Err f) h = absurd (cc (h.0, e))

pub left_fault : (r after : Reader) (x : Result (Option Lexeme) ReadFault) (f : ReadFault) → Next (met r) r x after → x ≡ Err f → left r ≡ Err f
left_fault r after x f h e = pieces_fault (opens_of r) (place_of r) (drop (place_of r) (text_of r)) f (met_fault (met r) r after x f h e)
