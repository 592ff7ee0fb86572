-- The pieces of a text, one step after another. Assumes nothing.
use Rattle.std.proofs.Common.{◌≡◌, ℕ, zero, suc, ◌+◌, ◌-◌, ◌≤◌, Bool, true, false, cond, ltb, List, [], ◌∷◌, length, drop, Some, None, Ok, Err, Option, Result, sym, refl, ap, ◌∙◌, subst, add-zero, arith}
use Rattle.std.proofs.lemmas.Bool.{ltb-true}
use Rattle.syntax.specs.Census.{depth_after}
use Rattle.syntax.specs.Lexemes.{lexeme, Longest, Found, some, lexeme_at}
use Rattle.syntax.specs.Limits.{nesting_limit}
use Rattle.syntax.specs.Readers.{next, Next, Goes}
use Rattle.syntax.specs.Reading.{Piece, Step, then, raised, opened, entered, step, unclosed, piece, first, pieces}
use Rattle.syntax.specs.Layers.{BracketFault}
use Rattle.syntax.specs.declared.fault.BracketFaultKind.TheVariants.{TooDeep}
use Rattle.syntax.specs.declared.fault.ReadFault.{ReadFault}
use Rattle.syntax.specs.declared.fault.ReadFault.TheVariants as R
use Rattle.syntax.specs.Layers.{TokenFault}
use Rattle.syntax.specs.declared.lexeme.Lexeme.{Lexeme}
use Rattle.syntax.specs.declared.lexeme.LexemeKind.{LexemeKind}
use Rattle.syntax.specs.declared.lexeme.LexemeKind.TheVariants.{Open, Close, Token}
use Rattle.syntax.specs.declared.reader.Reader.{Reader}
use Rattle.syntax.proofs.Longest.{found}

-- the bytes of a piece before are passed over
pub pieces_skip : (os : List ℕ) (p n : ℕ) (bs : List ℕ) → n ≤ length bs → pieces os p n bs ≡ pieces os (p + n) 0 (drop n bs)
unfolding pieces
pieces_skip os p zero bs h = ap (λ q. pieces os q 0 bs) (sym (add-zero p))
pieces_skip os p (suc n) [] h = absurd (omega arith)
pieces_skip os p (suc n) (b ∷ bs) h =
    pieces_skip os (p + 1) n bs (omega arith) ∙ (let e : p + 1 + n ≡ p + suc n = omega arith in ap (λ q. pieces os q 0 (drop n bs)) e)

-- a step that is taken: the lexeme at the front, and the forms that are open after it
pub record Taken (os : List ℕ) (p : ℕ) (bs : List ℕ) (s : Step) : Type 0 where
  pub read : lexeme_at p bs ≡ Ok (Some s.lexeme)
  pub longest : Longest s.lexeme.kind s.lexeme.len bs
  pub brackets : opened os p s.lexeme.kind ≡ Ok s.opens

entered_ok : (os : List ℕ) (p : ℕ) (l : Lexeme) (s : Step) (r : Result (List ℕ) BracketFault) → opened os p l.kind ≡ r → then (raised R.Bracket r) (λ now. Ok (record { lexeme = l; opens = now })) ≡ Ok s → (l ≡ s.lexeme) × (opened os p l.kind ≡ Ok s.opens)
entered_ok os p l s (Ok now) e h = let q : record { lexeme = l; opens = now } ≡ s = cc in (ap (λ t. t.lexeme) q, e ∙ ap Ok (ap (λ t. t.opens) q))
entered_ok os p l s (Err f) e h = absurd cc

step_ok : (os : List ℕ) (p : ℕ) (r : Result Lexeme TokenFault) (s : Step) → then (raised R.Token r) (entered os p) ≡ Ok s → (r ≡ Ok s.lexeme) × (opened os p s.lexeme.kind ≡ Ok s.opens)
step_ok os p (Ok l) s h =
    let q = entered_ok os p l s (opened os p l.kind) refl h in
    (ap Ok q.0, subst (λ m. opened os p m.kind ≡ Ok s.opens) q.0 q.1)
step_ok os p (Err f) s h = absurd cc

next_step : (r : Result Step ReadFault) (s : Step) → then r (λ t. Ok (Some t)) ≡ Ok (Some s) → r ≡ Ok s
next_step (Ok t) s h = cc
next_step (Err f) s h = absurd cc

next_end : (os : List ℕ) (s : Step) → raised R.Bracket (unclosed None os) ≡ Ok (Some s) → ⊥
next_end [] s h = cc
next_end (o ∷ os) s h = cc

pub taken : (os : List ℕ) (p : ℕ) (bs : List ℕ) (s : Step) → next os p bs ≡ Ok (Some s) → Taken os p bs s
taken os p [] s h = absurd (next_end os s h)
taken os p (b ∷ bs) s h =
    let q = step_ok os p (lexeme p b bs) s (next_step (step os p b bs) s h) in
    record {
      read = ap some q.0;
      longest = subst (λ r. Found p r (b ∷ bs)) (ap some q.0) (found p (b ∷ bs));
      brackets = q.1;
    }

pub pieces_more : (os : List ℕ) (p : ℕ) (bs : List ℕ) (s : Step) → next os p bs ≡ Ok (Some s) → pieces os p 0 bs ≡ first (piece s.lexeme bs) (pieces s.opens (p + s.lexeme.len) 0 (drop s.lexeme.len bs))
unfolding pieces
pieces_more os p [] s h = absurd (next_end os s h)
pieces_more os p (b ∷ bs) s h =
    let t = (taken os p (b ∷ bs) s h).longest in
    let more = t.some in
    let within = t.within in
    let n = s.lexeme.len in
    let e : n ≡ suc (n - 1) = omega arith in
    let q : p + 1 + (n - 1) ≡ p + n = omega arith in
    ap (λ r. then r (λ u. first (piece u.lexeme (b ∷ bs)) (pieces u.opens (p + 1) (u.lexeme.len - 1) bs))) (next_step (step os p b bs) s h)
    ∙ ap (first (piece s.lexeme (b ∷ bs))) (
    pieces_skip s.opens (p + 1) (n - 1) bs (omega arith)
    ∙ ap (λ m. pieces s.opens m 0 (drop (n - 1) bs)) q
    ∙ ap (λ m. pieces s.opens (p + n) 0 (drop m (b ∷ bs))) (sym e)
    )

pub pieces_end : (os : List ℕ) (p : ℕ) (bs : List ℕ) → next os p bs ≡ Ok None → (pieces os p 0 bs ≡ Ok []) × (os ≡ []) × (bs ≡ [])
unfolding pieces
pieces_end [] p [] h = (refl, refl, refl)
pieces_end (o ∷ os) p [] h = absurd cc
pieces_end os p (b ∷ bs) h = absurd (none (step os p b bs) h)
  where
    none : (r : Result Step ReadFault) → then r (λ t. Ok (Some t)) ≡ Ok None → ⊥
    none (Ok t) h = cc
    none (Err f) h = cc

pub pieces_fault : (os : List ℕ) (p : ℕ) (bs : List ℕ) (f : ReadFault) → next os p bs ≡ Err f → pieces os p 0 bs ≡ Err f
unfolding pieces
pieces_fault [] p [] f h = absurd cc
pieces_fault (o ∷ os) p [] f h = cc
pieces_fault os p (b ∷ bs) f h = ap (λ r. then r (λ u. first (piece u.lexeme (b ∷ bs)) (pieces u.opens (p + 1) (u.lexeme.len - 1) bs))) (fault (step os p b bs) h)
  where
    fault : (r : Result Step ReadFault) → then r (λ t. Ok (Some t)) ≡ Err f → r ≡ Err f
    fault (Ok t) h = absurd cc
    fault (Err f) h = cc

-- pieces that begin with q
pub first_ok : (q : Piece) (r : Result (List Piece) ReadFault) (ps : List Piece) → first q r ≡ Ok ps → (qs : List Piece) × (r ≡ Ok qs) × (ps ≡ q ∷ qs)
first_ok q (Ok qs) ps h = (qs, refl, cc)
first_ok q (Err f) ps h = absurd cc

pub first_err : (q : Piece) (r : Result (List Piece) ReadFault) (f : ReadFault) → first q r ≡ Err f → r ≡ Err f
first_err q (Ok qs) f h = absurd cc
first_err q (Err g) f h = cc

-- what holds at the end and at a fault, and before a lexeme where it holds after it, holds everywhere
module _ (P : List ℕ → ℕ → List ℕ → Type 0) (at_end : (os : List ℕ) (p : ℕ) (bs : List ℕ) → next os p bs ≡ Ok None → P os p bs) (at_fault : (os : List ℕ) (p : ℕ) (bs : List ℕ) (f : ReadFault) → next os p bs ≡ Err f → P os p bs) (at_lexeme : (os : List ℕ) (p : ℕ) (bs : List ℕ) (s : Step) → next os p bs ≡ Ok (Some s) → P s.opens (p + s.lexeme.len) (drop s.lexeme.len bs) → P os p bs) where
  by_next : (os : List ℕ) (p : ℕ) (bs : List ℕ) (x : Result (Option Step) ReadFault) → next os p bs ≡ x → ((s : Step) → next os p bs ≡ Ok (Some s) → P s.opens (p + s.lexeme.len) (drop s.lexeme.len bs)) → P os p bs
  by_next os p bs (Ok None) e after = at_end os p bs e
  by_next os p bs (Ok (Some s)) e after = at_lexeme os p bs s e (after s e)
  by_next os p bs (Err f) e after = at_fault os p bs f e

  from : (os : List ℕ) (p n : ℕ) (bs : List ℕ) → n ≤ length bs → P os (p + n) (drop n bs)
  from os p zero [] h = by_next os (p + 0) [] (next os (p + 0) []) refl (λ s e. absurd (next_end os s e))
  from os p (suc n) [] h = absurd (omega arith)
  from os p (suc n) (b ∷ bs) h =
      let e : p + 1 + n ≡ p + suc n = omega arith in subst (λ q. P os q (drop n bs)) e (from os (p + 1) n bs (omega arith))
  from os p zero (b ∷ bs) h =
      by_next os (p + 0) (b ∷ bs) (next os (p + 0) (b ∷ bs)) refl
      (λ s e.
      let t = (taken os (p + 0) (b ∷ bs) s e).longest in
      let more = t.some in
      let within = t.within in
      let n = s.lexeme.len in
      let long : n ≡ suc (n - 1) = omega arith in
      let q : p + 1 + (n - 1) ≡ p + 0 + n = omega arith in
      subst (λ m. P s.opens (p + 0 + n) (drop m (b ∷ bs))) (sym long)
      (subst (λ m. P s.opens m (drop (n - 1) bs)) q (from s.opens (p + 1) (n - 1) bs (omega arith))))

  pub walked : (os : List ℕ) (p : ℕ) (bs : List ℕ) → P os p bs
  walked os p bs = subst (λ q. P os q bs) (add-zero p) (from os p 0 bs (omega arith))

-- how many forms are open after a lexeme
pub length-opened : (os : List ℕ) (p : ℕ) (k : LexemeKind) (now : List ℕ) → opened os p k ≡ Ok now → length now ≡ depth_after (length os) k
length-opened os p Open now h = by (ltb (length os) nesting_limit) h
  where
    by : (t : Bool) → cond {A = Result (List ℕ) BracketFault} t (Ok (p ∷ os)) (Err (record { kind = TooDeep; place = p })) ≡ Ok now → length now ≡ length os + 1
    by true h = let e : p ∷ os ≡ now = cc in omega (arith, ap length e)
    by false h = absurd cc
length-opened [] p Close now h = absurd cc
length-opened (o ∷ os) p Close now h = let e : os ≡ now = cc in omega (arith, ap length e)
length-opened os p (Token k) now h = let e : os ≡ now = cc in sym (ap length e)

-- never more than the limit allows
pub opened_shallow : (os : List ℕ) (p : ℕ) (k : LexemeKind) (now : List ℕ) → length os ≤ nesting_limit → opened os p k ≡ Ok now → length now ≤ nesting_limit
opened_shallow os p Open now fits h = by (ltb (length os) nesting_limit) refl h
  where
    by : (t : Bool) → ltb (length os) nesting_limit ≡ t → cond {A = Result (List ℕ) BracketFault} t (Ok (p ∷ os)) (Err (record { kind = TooDeep; place = p })) ≡ Ok now → length now ≤ nesting_limit
    by true e h = let q : p ∷ os ≡ now = cc in omega (arith, ltb-true (length os) nesting_limit e, ap length q)
    by false e h = absurd cc
opened_shallow [] p Close now fits h = absurd cc
opened_shallow (o ∷ os) p Close now fits h = let q : os ≡ now = cc in omega (arith, ap length q)
opened_shallow os p (Token k) now fits h = let q : os ≡ now = cc in omega (arith, ap length q)

-- what a reader met, from what it answered
pub met_some : (x : Result (Option Step) ReadFault) (before after : Reader) (r : Result (Option Lexeme) ReadFault) (l : Lexeme) → Next x before r after → r ≡ Ok (Some l) → (s : Step) × (x ≡ Ok (Some s)) × (s.lexeme ≡ l) × Goes s before after
met_some (Ok (Some s)) before after r l h e = (s, refl, cc (h.0, e), h.1)
met_some (Ok None) before after r l h e = absurd (cc (h.0, e))
met_some (Err f) before after r l h e = absurd (cc (h.0, e))

pub met_none : (x : Result (Option Step) ReadFault) (before after : Reader) (r : Result (Option Lexeme) ReadFault) → Next x before r after → r ≡ Ok None → x ≡ Ok None
met_none (Ok (Some s)) before after r h e = absurd (cc (h.0, e))
met_none (Ok None) before after r h e = refl
met_none (Err f) before after r h e = absurd (cc (h.0, e))

pub met_fault : (x : Result (Option Step) ReadFault) (before after : Reader) (r : Result (Option Lexeme) ReadFault) (f : ReadFault) → Next x before r after → r ≡ Err f → x ≡ Err f
met_fault (Ok (Some s)) before after r f h e = absurd (cc (h.0, e))
met_fault (Ok None) before after r f h e = absurd (cc (h.0, e))
met_fault (Err g) before after r f h e = cc (h.0, e)
