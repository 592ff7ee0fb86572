-- A fault lies within the text. Assumes nothing.
use Rattle.std.proofs.Common.{◌≡◌, ℕ, ◌+◌, ◌≤◌, Bool, true, false, cond, ltb, List, [], ◌∷◌, length, drop, Some, Ok, Err, Result, sym, refl, ap, ◌∙◌, subst, arith}
use Rattle.std.specs.List.{AllByRecursion}
use Rattle.std.proofs.lemmas.List.{length-drop}
use Rattle.syntax.specs.Census.{census_of, census}
use Rattle.syntax.specs.Faults.{place_of}
use Rattle.syntax.specs.Lexemes.{lexeme, some, Found}
use Rattle.syntax.specs.Limits.{nesting_limit}
use Rattle.syntax.specs.Readers.{next}
use Rattle.syntax.specs.Reading.{Piece, Step, then, raised, opened, entered, step, piece, pieces, reading}
use Rattle.syntax.specs.Layers.{BracketFault}
use Rattle.syntax.specs.declared.fault.BracketFaultKind.TheVariants.{UnclosedForm, TooDeep}
use Rattle.syntax.specs.declared.fault.ReadFault.{ReadFault}
use Rattle.syntax.specs.declared.fault.ReadFault.TheVariants as R
use Rattle.syntax.specs.Layers.{TokenFault}
use Rattle.syntax.specs.declared.lexeme.Lexeme.{Lexeme}
use Rattle.syntax.specs.declared.lexeme.LexemeKind.{LexemeKind}
use Rattle.syntax.specs.declared.lexeme.LexemeKind.TheVariants.{Open, Close, Token}
use Rattle.syntax.proofs.Longest.{found}
use Rattle.syntax.proofs.Walking.{taken, pieces_more, pieces_end, pieces_fault, first_err, walked}

module _ (m : ℕ) where
  -- a bracket's fault is at the bracket
  opened_fault : (os : List ℕ) (p : ℕ) (k : LexemeKind) (f : BracketFault) → opened os p k ≡ Err f → f.place ≡ p
  opened_fault os p Open f h = by (ltb (length os) nesting_limit) h
    where
      by : (t : Bool) → cond {A = Result (List ℕ) BracketFault} t (Ok (p ∷ os)) (Err (record { kind = TooDeep; place = p })) ≡ Err f → f.place ≡ p
      by true h = absurd cc
      by false h = let e : record { kind = TooDeep; place = p } ≡ f = cc in sym (ap (λ g. g.place) e)
  opened_fault [] p Close f h = cc
  opened_fault (o ∷ os) p Close f h = absurd cc
  opened_fault os p (Token k) f h = absurd cc

  opened_all : (os : List ℕ) (p : ℕ) (k : LexemeKind) (now : List ℕ) → p ≤ m → AllByRecursion (λ o. o ≤ m) os → opened os p k ≡ Ok now → AllByRecursion (λ o. o ≤ m) now
  opened_all os p Open now at all h = by (ltb (length os) nesting_limit) h
    where
      by : (t : Bool) → cond {A = Result (List ℕ) BracketFault} t (Ok (p ∷ os)) (Err (record { kind = TooDeep; place = p })) ≡ Ok now → AllByRecursion (λ o. o ≤ m) now
      by true h = let e : p ∷ os ≡ now = cc in subst (AllByRecursion (λ o. o ≤ m)) e (at, all)
      by false h = absurd cc
  opened_all [] p Close now at all h = absurd cc
  opened_all (o ∷ os) p Close now at all h = let e : os ≡ now = cc in subst (AllByRecursion (λ o. o ≤ m)) e all.1
  opened_all os p (Token k) now at all h = let e : os ≡ now = cc in subst (AllByRecursion (λ o. o ≤ m)) e all

  entered_fault : (p : ℕ) (l : Lexeme) (f : ReadFault) (r : Result (List ℕ) BracketFault) → ((g : BracketFault) → r ≡ Err g → g.place ≡ p) → then {B = Step} (raised R.Bracket r) (λ now. Ok (record { lexeme = l; opens = now })) ≡ Err f → place_of f ≡ p
  entered_fault p l f (Ok now) at h = absurd cc
  entered_fault p l f (Err g) at h = let e : R.Bracket g ≡ f = cc in sym (ap place_of e) ∙ at g refl

  step_fault : (os : List ℕ) (p n : ℕ) (f : ReadFault) (r : Result Lexeme TokenFault) → p ≤ n → ((g : TokenFault) → r ≡ Err g → g.place ≤ n) → then (raised R.Token r) (entered os p) ≡ Err f → place_of f ≤ n
  step_fault os p n f (Ok l) at token h = omega (arith, entered_fault p l f (opened os p l.kind) (opened_fault os p l.kind) h)
  step_fault os p n f (Err g) at token h = let e : R.Token g ≡ f = cc in omega (arith, ap place_of e, token g refl)

  next_fault : (os : List ℕ) (p : ℕ) (bs : List ℕ) (f : ReadFault) → AllByRecursion (λ o. o ≤ m) os → p + length bs ≤ m → next os p bs ≡ Err f → place_of f ≤ m
  next_fault [] p [] f all at h = absurd cc
  next_fault (o ∷ os) p [] f all at h =
      let e : R.Bracket (record { kind = UnclosedForm; place = o }) ≡ f = cc in subst (λ g. place_of g ≤ m) e all.0
  next_fault os p (b ∷ bs) f all at h = by (step os p b bs) refl h
    where
      by : (x : Result Step ReadFault) → step os p b bs ≡ x → then x (λ s. Ok (Some s)) ≡ Err f → place_of f ≤ m
      by (Ok s) e h = absurd cc
      by (Err g) e h =
          let q : g ≡ f = cc in
          step_fault os p m f (lexeme p b bs) (omega arith)
          (λ t k. let w = subst (λ r. Found p r (b ∷ bs)) (ap some k) (found p (b ∷ bs)) in omega arith)
          (e ∙ ap Err q)

  pieces_within : (os : List ℕ) (p : ℕ) (bs : List ℕ) → AllByRecursion (λ o. o ≤ m) os → p + length bs ≤ m → (f : ReadFault) → pieces os p 0 bs ≡ Err f → place_of f ≤ m
  pieces_within =
      walked (λ os p bs. AllByRecursion (λ o. o ≤ m) os → p + length bs ≤ m → (f : ReadFault) → pieces os p 0 bs ≡ Err f → place_of f ≤ m)
      (λ os p bs e all at f h. absurd (cc ((pieces_end os p bs e).0, h)))
      (λ os p bs g e all at f h. let q : g ≡ f = cc (pieces_fault os p bs g e, h) in next_fault os p bs f all at (e ∙ ap Err q))
      (λ os p bs s e after all at f h.
      let n = s.lexeme.len in
      let t = taken os p bs s e in
      let within = t.longest.within in
      after (opened_all os p s.lexeme.kind s.opens (omega arith) all t.brackets) (omega (arith, length-drop n bs)) f
      (first_err (piece s.lexeme bs) (pieces s.opens (p + n) 0 (drop n bs)) f (sym (pieces_more os p bs s e) ∙ h)))

pub census_within : (text : List ℕ) (f : ReadFault) → census text ≡ Err f → place_of f ≤ length text
census_within text f h = by (reading text) refl h
  where
    by : (r : Result (List Piece) ReadFault) → reading text ≡ r → then r (λ ps. Ok (census_of ps)) ≡ Err f → place_of f ≤ length text
    by (Ok ps) e h = absurd cc
    by (Err g) e h = let q : g ≡ f = cc in pieces_within (length text) [] 0 text tt (omega arith) f (e ∙ ap Err q)
