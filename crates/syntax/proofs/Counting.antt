-- The census of what was read, and what is left, make up the census of the text. Assumes nothing.
use Rattle.std.proofs.Common.{◌≡◌, ℕ, ◌+◌, ◌^◌, ◌<◌, ◌≤◌, max, Bool, true, false, cond, eqb, List, [], ◌∷◌, ◌++◌, length, drop, Some, None, Ok, Err, count_by, Option, Result, sym, refl, ap, ◌∙◌, subst, zero-le, add-zero, zero-add, arith}
use mathlib.Core.Path.{fun_ext}
use native.Mathlib.Nat.{max-eq_left}
use Rattle.std.proofs.lemmas.List.{length-append}
use Rattle.std.proofs.lemmas.List.Sums.{sum_by-cons}
use Rattle.std.specs.Option.{option_or}
use Rattle.syntax.specs.Census.{is_open, begun, depth_after, tokens_of, tokens, forms, items, at_top, top_kinds, first_of, last_of, deepest, census_of, census, nothing, counted, Room}
use Rattle.syntax.specs.Readers.{text_of, place_of, opens_of, left}
use Rattle.syntax.specs.Reading.{Piece, then, pieces, first, reading}
use Rattle.syntax.specs.declared.census.Census.{Census}
use Rattle.syntax.specs.declared.fault.ReadFault.{ReadFault}
use Rattle.syntax.specs.declared.kind.ItemKind.{ItemKind}
use Rattle.syntax.specs.declared.kind.Kind.TheVariants as K
use Rattle.syntax.specs.declared.lexeme.Lexeme.{Lexeme}
use Rattle.syntax.specs.declared.lexeme.LexemeKind.{LexemeKind}
use Rattle.syntax.specs.declared.lexeme.LexemeKind.TheVariants.{Open, Close, Token}
use Rattle.syntax.specs.declared.reader.Reader.{Reader}
use Rattle.syntax.proofs.Onward.{Onward}

-- the census c, and what ps holds, where d forms are open before ps
abbrev pub added : Census → ℕ → List Piece → Census
added c d ps =
    record {
      line_ends = c.line_ends + tokens_of K.LineEnd ps;
      blanks = c.blanks + tokens_of K.Blank ps;
      words = c.words + tokens_of K.Word ps;
      quoted = c.quoted + tokens_of K.Quoted ps;
      comments = c.comments + tokens_of K.Comment ps;
      tokens = c.tokens + tokens ps;
      forms = c.forms + forms ps;
      items = c.items + items ps;
      top_items = c.top_items + length (top_kinds d ps);
      first = option_or c.first (first_of (top_kinds d ps));
      last = option_or (last_of (top_kinds d ps)) c.last;
      nesting = max c.nesting (deepest d ps);
    }

pub same_census : (a b : Census) → a.line_ends ≡ b.line_ends → a.blanks ≡ b.blanks → a.words ≡ b.words → a.quoted ≡ b.quoted → a.comments ≡ b.comments → a.tokens ≡ b.tokens → a.forms ≡ b.forms → a.items ≡ b.items → a.top_items ≡ b.top_items → a.first ≡ b.first → a.last ≡ b.last → a.nesting ≡ b.nesting → a ≡ b
same_census a b e₀ e₁ e₂ e₃ e₄ e₅ e₆ e₇ e₈ e₉ f₀ f₁ =
    λ i.
    record {
      line_ends = e₀ i;
      blanks = e₁ i;
      words = e₂ i;
      quoted = e₃ i;
      comments = e₄ i;
      tokens = e₅ i;
      forms = e₆ i;
      items = e₇ i;
      top_items = e₈ i;
      first = e₉ i;
      last = f₀ i;
      nesting = f₁ i;
    }

option_or_none : (k : Option ItemKind) → option_or k None ≡ k
option_or_none None = refl
option_or_none (Some k) = refl

option_or_assoc : (j k l : Option ItemKind) → option_or (option_or j k) l ≡ option_or j (option_or k l)
option_or_assoc None k l = refl
option_or_assoc (Some j) k l = refl

pub added_none : (c : Census) (d : ℕ) → d ≤ c.nesting → added c d [] ≡ c
added_none c d h =
    same_census (added c d []) c (add-zero _) (add-zero _) (add-zero _) (add-zero _) (add-zero _) (add-zero _) (add-zero _) (add-zero _) (add-zero _) (option_or_none _) refl (max-eq_left h)

pub added_to_none : (ps : List Piece) → added nothing 0 ps ≡ census_of ps
added_to_none ps =
    same_census (added nothing 0 ps) (census_of ps) (zero-add _) (zero-add _) (zero-add _) (zero-add _) (zero-add _) (zero-add _) (zero-add _) (zero-add _) (zero-add _) refl (option_or_none _) (omega arith)

-- the forms that are open before are open at once
pub deepest_above : (d : ℕ) (ps : List Piece) → d ≤ deepest d ps
deepest_above d [] = omega arith
deepest_above d (p ∷ ps) = omega arith

top_more : (n : ℕ) (now later : List ItemKind) → n + length (now ++ later) ≡ n + length now + length later
top_more n now later = omega (arith, length-append now later)

first_more : (k : Option ItemKind) (now later : List ItemKind) → option_or k (first_of (now ++ later)) ≡ option_or (option_or k (first_of now)) (first_of later)
first_more (Some k) now later = refl
first_more None [] later = refl
first_more None (j ∷ now) later = refl

last_append : (now later : List ItemKind) → last_of (now ++ later) ≡ option_or (last_of later) (last_of now)
last_append [] later = sym (option_or_none (last_of later))
last_append (j ∷ now) later = ap (λ k. option_or k (Some j)) (last_append now later) ∙ option_or_assoc (last_of later) (last_of now) (Some j)

last_more : (k : Option ItemKind) (now later : List ItemKind) → option_or (last_of (now ++ later)) k ≡ option_or (last_of later) (option_or (last_of now) k)
last_more k now later = ap (λ j. option_or j k) (last_append now later) ∙ option_or_assoc (last_of later) (last_of now) k

-- one more that passes the test, or not, counted before or with the rest
count_more : (n : ℕ) (f : Piece → Bool) (p : Piece) (ps : List Piece) → n + count_by f (p ∷ ps) ≡ n + cond (f p) 1 0 + count_by f ps
count_more n f p ps = omega (arith, sum_by-cons (λ x. cond (f x) 1 0) p ps)

nesting_more : (c : Census) (d : ℕ) (k : LexemeKind) (ps : List Piece) → d ≤ c.nesting → max c.nesting (max d (deepest (depth_after d k) ps)) ≡ max (cond (is_open k) (max c.nesting (d + 1)) c.nesting) (deepest (depth_after d k) ps)
nesting_more c d Open ps h = omega (arith, deepest_above (d + 1) ps)
nesting_more c d Close ps h = omega arith
nesting_more c d (Token k) ps h = omega arith

pub added_more : (c : Census) (d : ℕ) (p : Piece) (ps : List Piece) → d ≤ c.nesting → added c d (p ∷ ps) ≡ added (counted c p.kind d) (depth_after d p.kind) ps
added_more c d p ps h =
    let later = top_kinds (depth_after d p.kind) ps in
    same_census (added c d (p ∷ ps)) (added (counted c p.kind d) (depth_after d p.kind) ps)
    (count_more _ _ p ps) (count_more _ _ p ps) (count_more _ _ p ps) (count_more _ _ p ps) (count_more _ _ p ps) (count_more _ _ p ps) (count_more _ _ p ps) (count_more _ _ p ps)
    (top_more c.top_items (at_top d p.kind) later) (first_more c.first (at_top d p.kind) later) (last_more c.last (at_top d p.kind) later) (nesting_more c d p.kind ps h)

-- no number of c is above n
pub record Small (c : Census) (n : ℕ) : Type 0 where
  pub line_ends : c.line_ends ≤ n
  pub blanks : c.blanks ≤ n
  pub words : c.words ≤ n
  pub quoted : c.quoted ≤ n
  pub comments : c.comments ≤ n
  pub tokens : c.tokens ≤ n
  pub forms : c.forms ≤ n
  pub items : c.items ≤ n
  pub top_items : c.top_items ≤ n

one_at_most : (m n : ℕ) (t : Bool) → m < n → m + cond t 1 0 ≤ n
one_at_most m n true h = omega arith
one_at_most m n false h = omega arith

length-at_top : (d : ℕ) (k : LexemeKind) → length (at_top d k) ≤ 1
length-at_top d k = by (eqb d 0) k
  where
    by : (t : Bool) (k : LexemeKind) → length (cond t (begun k) []) ≤ 1
    by true Open = omega arith
    by true Close = omega arith
    by true (Token j) = omega arith
    by false j = omega arith

small_more : (c : Census) (m n : ℕ) (k : LexemeKind) (d : ℕ) → Small c m → m < n → Small (counted c k d) n
small_more c m n k d s h =
    record {
      line_ends = one_at_most _ n _ (omega (arith, s.line_ends));
      blanks = one_at_most _ n _ (omega (arith, s.blanks));
      words = one_at_most _ n _ (omega (arith, s.words));
      quoted = one_at_most _ n _ (omega (arith, s.quoted));
      comments = one_at_most _ n _ (omega (arith, s.comments));
      tokens = one_at_most _ n _ (omega (arith, s.tokens));
      forms = one_at_most _ n _ (omega (arith, s.forms));
      items = one_at_most _ n _ (omega (arith, s.items));
      top_items = omega (arith, s.top_items, length-at_top d k);
    }

-- the reader r has read a part of the text, and c is the census of that part
pub record Sofar (text : List ℕ) (r : Reader) (c : Census) : Type 0 where
  pub same : text_of r ≡ text
  pub place : place_of r ≤ length text
  pub whole : then (left r) (λ ps. Ok (added c (length (opens_of r)) ps)) ≡ census text
  pub small : Small c (place_of r)
  pub deep : length (opens_of r) ≤ c.nesting

pub sofar_none : (text : List ℕ) (r : Reader) (c : Census) → text_of r ≡ text → place_of r ≡ 0 → opens_of r ≡ [] → c ≡ nothing → Sofar text r c
sofar_none text r c same start none fresh =
    record {
      same = same;
      place = omega arith;
      whole =
          (λ i. then (pieces (none i) (start i) 0 (drop (start i) (same i))) (λ ps. Ok (added (fresh i) (length (none i)) ps)))
          ∙ ap (then (reading text)) (fun_ext (λ ps. ap Ok (added_to_none ps)));
      small =
          subst (λ x. Small x (place_of r)) (sym fresh)
          (record { line_ends = zero-le; blanks = zero-le; words = zero-le; quoted = zero-le; comments = zero-le; tokens = zero-le; forms = zero-le; items = zero-le; top_items = zero-le });
      deep = omega (arith, ap length none);
    }

-- the first piece counted with what was read, or with what is left
then_first : (c : Census) (d : ℕ) (q : Piece) (x : Result (List Piece) ReadFault) → d ≤ c.nesting → then (first q x) (λ ps. Ok (added c d ps)) ≡ then x (λ ps. Ok (added (counted c q.kind d) (depth_after d q.kind) ps))
then_first c d q (Ok ps) h = ap Ok (added_more c d q ps h)
then_first c d q (Err f) h = refl

deep_more : (c : Census) (d now : ℕ) (k : LexemeKind) → d ≤ c.nesting → now ≡ depth_after d k → now ≤ (counted c k d).nesting
deep_more c d now Open h e = omega arith
deep_more c d now Close h e = omega arith
deep_more c d now (Token k) h e = omega arith

module _ {text : List ℕ} {r : Reader} {c : Census} (so : Sofar text r c) where
  pub sofar_fault : (f : ReadFault) → left r ≡ Err f → Err f ≡ census text
  sofar_fault f h = ap (λ y. then y (λ ps. Ok (added c (length (opens_of r)) ps))) (sym h) ∙ so.whole

  pub sofar_end : left r ≡ Ok [] → Ok c ≡ census text
  sofar_end h = ap Ok (sym (added_none c (length (opens_of r)) so.deep)) ∙ ap (λ y. then y (λ ps. Ok (added c (length (opens_of r)) ps))) (sym h) ∙ so.whole

  pub sofar_more : (after : Reader) (l : Lexeme) → Onward r after l → Sofar text after (counted c l.kind (length (opens_of r)))
  sofar_more after l o =
      let d = length (opens_of r) in
      let moved = o.place in
      let some = o.some in
      let within = o.within in
      let same = ap length so.same in
      record {
        same = o.text ∙ so.same;
        place = omega arith;
        whole =
            ap (λ e. then (left after) (λ ps. Ok (added (counted c l.kind d) e ps))) o.depth
            ∙ sym (then_first c d (record { kind = l.kind; bytes = o.bytes }) (left after) so.deep)
            ∙ ap (λ y. then y (λ ps. Ok (added c d ps))) (sym o.left_is)
            ∙ so.whole;
        small = small_more c (place_of r) (place_of after) l.kind d so.small (omega arith);
        deep = deep_more c d (length (opens_of after)) l.kind so.deep o.depth;
      }

  -- the counts have room, since each is at most the number of bytes read
  pub sofar_room : place_of r + 1 < 2 ^ 64 → Room c
  sofar_room h =
      record {
        line_ends = omega (arith, so.small.line_ends);
        blanks = omega (arith, so.small.blanks);
        words = omega (arith, so.small.words);
        quoted = omega (arith, so.small.quoted);
        comments = omega (arith, so.small.comments);
        tokens = omega (arith, so.small.tokens);
        forms = omega (arith, so.small.forms);
        items = omega (arith, so.small.items);
        top_items = omega (arith, so.small.top_items);
      }
