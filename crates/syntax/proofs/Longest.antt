-- A lexeme that is read obeys its kind's rule, and no longer one could be taken. Assumes nothing.
use Rattle.std.proofs.Common.{◌≡◌, ℕ, suc, ◌+◌, ◌<◌, ◌≤◌, Bool, true, false, cond, eqb, leb, List, [], ◌∷◌, ◌++◌, length, take, drop, Ok, Err, sym, refl, ap, ◌∙◌, subst, add-one, one-add, arith}
use Rattle.std.specs.List.{prefix_len, AllByRecursion}
use Rattle.std.proofs.ByRecursion.{All-weaker}
use Rattle.std.proofs.lemmas.List.{length-append, length-take-le, take-append-drop}
use Rattle.std.proofs.lemmas.List.Sums.{prefix_len-le-length}
use Rattle.std.proofs.lemmas.Bool.{eqb-true, leb-true, cond-true}
use Rattle.syntax.specs.Classes.{class}
use Rattle.syntax.specs.Limits.{token_limit}
use Rattle.syntax.specs.Tokens.{code, is, continues, closes_class, Delimited, Obeys}
use Rattle.syntax.specs.Lexemes.{run, finished, ended, delimited, lexeme_by, lexeme_at, some, runs_on, Stops, Found}
use Rattle.syntax.specs.declared.class.Class.{Class}
use Rattle.syntax.specs.declared.class.Class.TheVariants as C
use Rattle.syntax.specs.declared.fault.TokenFaultKind.TheVariants.{ForeignByte, Unfinished, TooLong}
use Rattle.syntax.specs.declared.kind.Kind.{Kind}
use Rattle.syntax.specs.declared.kind.Kind.TheVariants as K
use Rattle.syntax.specs.declared.lexeme.LexemeKind.{LexemeKind}
use Rattle.syntax.specs.declared.lexeme.LexemeKind.TheVariants.{Open, Close, Token}

-- the class of a code
abbrev decoded : ℕ → Class
decoded n =
    cond (eqb n 0) C.Open (cond (eqb n 1) C.Close (cond (eqb n 2) C.LineEnd (cond (eqb n 3) C.Blank (cond (eqb n 4) C.Comment (cond (eqb n 5) C.Quote (cond (eqb n 6) C.Word C.Foreign))))))

decoded_code : (c : Class) → decoded (code c) ≡ c
decoded_code C.Open = refl
decoded_code C.Close = refl
decoded_code C.LineEnd = refl
decoded_code C.Blank = refl
decoded_code C.Comment = refl
decoded_code C.Quote = refl
decoded_code C.Word = refl
decoded_code C.Foreign = refl

-- classes that pass the test are the same
pub is_same : (c d : Class) → is c d ≡ true → c ≡ d
is_same c d e = sym (decoded_code c) ∙ ap decoded (eqb-true (code c) (code d) e) ∙ decoded_code d

pub same_is : (c d : Class) → c ≡ d → is c d ≡ true
same_is c d e = ap (λ x. is x d) e ∙ self d
  where
    self : (c : Class) → is c c ≡ true
    self C.Open = refl
    self C.Close = refl
    self C.LineEnd = refl
    self C.Blank = refl
    self C.Comment = refl
    self C.Quote = refl
    self C.Word = refl
    self C.Foreign = refl

-- the bytes of a run pass the test
leading_all : (p : ℕ → Bool) (bs : List ℕ) → AllByRecursion (λ b. p b ≡ true) (take (prefix_len p bs) bs)
leading_all p [] = tt
leading_all p (b ∷ bs) = by (p b) refl (leading_all p bs)
  where
    by : (t : Bool) → p b ≡ t → AllByRecursion (λ x. p x ≡ true) (take (prefix_len p bs) bs) → AllByRecursion (λ x. p x ≡ true) (take (cond t (1 + prefix_len p bs) 0) (b ∷ bs))
    by true e rest = rw one-add (e, rest)
    by false e rest = tt

-- the byte behind a run, if there is one, does not
leading_stops : (p : ℕ → Bool) (bs : List ℕ) (P : List ℕ → Type 0) → P [] → ((b : ℕ) (rest : List ℕ) → p b ≡ false → P (b ∷ rest)) → P (drop (prefix_len p bs) bs)
leading_stops p [] P none more = none
leading_stops p (b ∷ bs) P none more = by (p b) refl (leading_stops p bs P none more)
  where
    by : (t : Bool) → p b ≡ t → P (drop (prefix_len p bs) bs) → P (drop (cond t (1 + prefix_len p bs) 0) (b ∷ bs))
    by true e rest = rw one-add rest
    by false e rest = more b bs e

-- as far as one element, and that one too
take_through : (ys : List ℕ) (x : ℕ) (zs : List ℕ) → take (suc (length ys)) (ys ++ x ∷ zs) ≡ ys ++ x ∷ []
take_through [] x zs = refl
take_through (y ∷ ys) x zs = ap (λ l. y ∷ l) (take_through ys x zs)

-- a lexeme that takes in no byte behind it stops anywhere
never_runs : (k : LexemeKind) → ((b : ℕ) → runs_on k b ≡ false) → (bs : List ℕ) → Stops k bs
never_runs k none [] = tt
never_runs k none (b ∷ bs) = none b

finished_found : (k : Kind) (n p : ℕ) (bs : List ℕ) → 0 < n → n ≤ length bs → Obeys k (take n bs) → Stops (Token k) (drop n bs) → Found p (some (finished k n p)) bs
finished_found k n p bs more within obeys stops = by (leb n token_limit) refl
  where
    by : (t : Bool) → leb n token_limit ≡ t → Found p (some (cond t (Ok (record { kind = Token k; len = n })) (Err (record { kind = TooLong k; place = p })))) bs
    by true h =
        record {
          some = more;
          within = within;
          rule = (obeys, omega (arith, length-take-le n bs within, leb-true n token_limit h));
          stops = stops;
        }
    by false h = (omega arith, omega arith)

-- a run of a kind whose first byte is one of its bytes
run_found : (k : Kind) (p b : ℕ) (bs : List ℕ) → continues k b ≡ true → (Stops (Token k) (drop (run k (b ∷ bs)) (b ∷ bs))) → ((xs : List ℕ) → 0 < length xs → AllByRecursion (λ x. continues k x ≡ true) xs → Obeys k xs) → Found p (some (finished k (run k (b ∷ bs)) p)) (b ∷ bs)
run_found k p b bs first stops obeys =
    let long : run k (b ∷ bs) ≡ 1 + run k bs = cond-true (continues k b) (1 + run k bs) 0 first in
    let more : 0 < run k (b ∷ bs) = omega arith in
    let within = prefix_len-le-length (continues k) (b ∷ bs) in
    finished_found k (run k (b ∷ bs)) p (b ∷ bs) more within
    (obeys (take (run k (b ∷ bs)) (b ∷ bs)) (omega (arith, length-take-le (run k (b ∷ bs)) (b ∷ bs) within)) (leading_all (continues k) (b ∷ bs))) stops

-- a token that is opened by b, goes on with the bytes of inner, and is stopped by what comes then
module _ (k : Kind) (opening shutting : Class) (shuts : (c : Class) → closes_class k c ≡ true → c ≡ shutting) (obeys : (xs : List ℕ) → Delimited opening k shutting xs → Obeys k xs) (never : (b : ℕ) → runs_on (Token k) b ≡ false) where
  ended_found : (p b : ℕ) (inner rest : List ℕ) → class b ≡ opening → AllByRecursion (λ x. continues k x ≡ true) inner → Found p (some (ended k p (suc (length inner)) rest)) (b ∷ (inner ++ rest))
  ended_found p b inner [] first inside = (omega arith, omega arith)
  ended_found p b inner (x ∷ xs) first inside = by (closes_class k (class x)) refl
    where
      by : (t : Bool) → closes_class k (class x) ≡ t → Found p (some (cond t (finished k (suc (length inner) + 1) p) (cond (is (class x) C.Foreign) (Err (record { kind = ForeignByte; place = p + suc (length inner) })) (Err (record { kind = Unfinished k; place = p }))))) (b ∷ (inner ++ x ∷ xs))
      by true e =
          finished_found k (suc (length inner) + 1) p (b ∷ (inner ++ x ∷ xs)) (omega arith) (simp length-append (omega arith))
          (obeys _ (record { front = b; inner = inner; back = x; opens = first; inside = inside; closes = shuts (class x) e; whole = rw add-one (ap (λ ys. b ∷ ys) (take_through inner x xs)) }))
          (never_runs (Token k) never _)
      by false e = other (is (class x) C.Foreign)
        where
          other : (t : Bool) → Found p (some (cond t (Err (record { kind = ForeignByte; place = p + suc (length inner) })) (Err (record { kind = Unfinished k; place = p })))) (b ∷ (inner ++ x ∷ xs))
          other true = (omega arith, simp length-append (omega arith))
          other false = (omega arith, omega arith)

  delimited_found : (p b : ℕ) (bs : List ℕ) → class b ≡ opening → Found p (some (delimited k p (b ∷ bs))) (b ∷ bs)
  delimited_found p b bs first =
      let n = run k bs in
      let split = take-append-drop n bs in
      let long = length-take-le n bs (prefix_len-le-length (continues k) bs) in
      subst (λ xs. Found p (some (delimited k p (b ∷ bs))) (b ∷ xs)) split
      (subst (λ m. Found p (some (ended k p (suc m) (drop n bs))) (b ∷ (take n bs ++ drop n bs))) long
      (ended_found p b (take n bs) (drop n bs) first (leading_all (continues k) bs)))

by_class : (p b : ℕ) (bs : List ℕ) (c : Class) → class b ≡ c → Found p (some (lexeme_by c p (b ∷ bs))) (b ∷ bs)
by_class p b bs C.Open e = record { some = omega arith; within = omega arith; rule = (refl, (e, tt)); stops = never_runs Open (λ _. refl) bs }
by_class p b bs C.Close e = record { some = omega arith; within = omega arith; rule = (refl, (e, tt)); stops = never_runs Close (λ _. refl) bs }
by_class p b bs C.LineEnd e =
    record { some = omega arith; within = omega arith; rule = ((refl, (e, tt)), omega arith); stops = never_runs (Token K.LineEnd) (λ _. refl) bs }
by_class p b bs C.Blank e =
    run_found K.Blank p b bs (same_is (class b) C.Blank e) (leading_stops (continues K.Blank) (b ∷ bs) (Stops (Token K.Blank)) tt (λ _ _ no. no))
    (λ xs more all. (more, All-weaker _ _ (λ x. is_same (class x) C.Blank) xs all))
by_class p b bs C.Word e =
    run_found K.Word p b bs (same_is (class b) C.Word e) (leading_stops (continues K.Word) (b ∷ bs) (Stops (Token K.Word)) tt (λ _ _ no. no))
    (λ xs more all. (more, All-weaker _ _ (λ x. is_same (class x) C.Word) xs all))
by_class p b bs C.Quote e = delimited_found K.Quoted C.Quote C.Quote (λ c. is_same c C.Quote) (λ _ d. d) (λ _. refl) p b bs e
by_class p b bs C.Comment e = delimited_found K.Comment C.Comment C.LineEnd (λ c. is_same c C.LineEnd) (λ _ d. d) (λ _. refl) p b bs e
by_class p b bs C.Foreign e = (omega arith, omega arith)

pub found : (p : ℕ) (bs : List ℕ) → Found p (lexeme_at p bs) bs
found p [] = refl
found p (b ∷ bs) = by_class p b bs (class b) refl
