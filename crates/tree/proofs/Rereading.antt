-- A well-formed tree's print is accepted, and read as that tree. Assumes nothing.
use Rattle.std.proofs.Common.{◌≡◌, ℕ, suc, ◌+◌, ◌<◌, ◌≤◌, Bool, true, false, ltb, leb, List, [], ◌∷◌, ◌++◌, length, drop, Some, Ok, Err, Result, sym, refl, ap, ◌∙◌, subst, append_assoc, append-nil, one-add, arith}
use Rattle.std.specs.List.{prefix_len, AllByRecursion}
use Rattle.std.proofs.ByRecursion.{All-weaker}
use Rattle.std.proofs.lemmas.List.{length-append, take_at, drop_at}
use Rattle.std.proofs.lemmas.Bool.{cond-true, cond-false, le-leb, lt-ltb}
use Rattle.syntax.specs.Classes.{class}
use Rattle.syntax.specs.Lexemes.{run, finished, ended, delimited, lexeme_by, lexeme, some, lexeme_at, runs_on, Stops}
use Rattle.syntax.specs.Limits.{token_limit, nesting_limit}
use Rattle.syntax.specs.Readers.{next}
use Rattle.syntax.specs.Reading.{Piece, Step, then, raised, opened, entered, first, pieces, reading}
use Rattle.syntax.specs.Tokens.{continues_class, continues, closes_class, Obeys, Delimited}
use Rattle.syntax.specs.declared.class.Class.{Class}
use Rattle.syntax.specs.declared.class.Class.TheVariants as C
use Rattle.syntax.specs.declared.fault.ReadFault.{ReadFault}
use Rattle.syntax.specs.declared.fault.ReadFault.TheVariants as R
use Rattle.syntax.specs.Layers.{TokenFault}
use Rattle.syntax.specs.declared.kind.Kind.{Kind}
use Rattle.syntax.specs.declared.kind.Kind.TheVariants as K
use Rattle.syntax.specs.declared.lexeme.Lexeme.{Lexeme}
use Rattle.syntax.specs.declared.lexeme.LexemeKind.TheVariants as L
use Rattle.syntax.proofs.Longest.{same_is}
use Rattle.syntax.proofs.Walking.{pieces_more}
use Rattle.tree.specs.Reading.{put, built, tree_of, tree_read, flat}
use Rattle.tree.specs.Trees.{Tree, nil, token, form, open_byte, close_byte, printed, width}
use Rattle.tree.specs.WellFormed.{nesting, TokensObey, Apart, WellFormed}
use Rattle.tree.proofs.Starts.{Closes, stops_before}

-- no byte of xs behind passes the test
abbrev Ends : (ℕ → Bool) → List ℕ → Type 0
Ends p [] = Unit {0}
Ends p (x ∷ xs) = p x ≡ false

-- a run is as long as the bytes that pass, where what comes behind does not
leading_front : (p : ℕ → Bool) (xs ys : List ℕ) → AllByRecursion (λ b. p b ≡ true) xs → Ends p ys → prefix_len p (xs ++ ys) ≡ length xs
leading_front p [] [] all ends = refl
leading_front p [] (y ∷ ys) all ends = cond-false (p y) _ _ ends
leading_front p (x ∷ xs) ys all ends = cond-true (p x) _ _ all.0 ∙ one-add _ ∙ ap suc (leading_front p xs ys all.1 ends)

finished_at : (k : Kind) (n p : ℕ) → n ≤ token_limit → finished k n p ≡ Ok (record { kind = L.Token k; len = n })
finished_at k n p h = cond-true (leb n token_limit) _ _ (le-leb n token_limit h)

-- the lexeme at the front of xs is a token of kind k and n bytes
abbrev ReadsToken : Kind → ℕ → ℕ → List ℕ → Type 0
ReadsToken k n p xs = lexeme_at p xs ≡ Ok (Some (record { kind = L.Token k; len = n }))

-- blanks and words
run_read : (k : Kind) (c : Class) (p : ℕ) (bs ys : List ℕ) → ((q : ℕ) (xs : List ℕ) → lexeme_by c q xs ≡ finished k (run k xs) q) → ((b : ℕ) → class b ≡ c → continues k b ≡ true) → 0 < length bs → AllByRecursion (λ b. class b ≡ c) bs → length bs ≤ token_limit → Ends (continues k) ys → ReadsToken k (length bs) p (bs ++ ys)
run_read k c p [] ys by goes h all fits ends = absurd (omega arith)
run_read k c p (b ∷ bs) ys by goes h all fits ends =
    ap (λ d. some (lexeme_by d p (b ∷ (bs ++ ys)))) all.0
    ∙ ap some (
    by p (b ∷ (bs ++ ys))
    ∙ ap (λ n. finished k n p) (leading_front (continues k) (b ∷ bs) ys (All-weaker _ _ goes (b ∷ bs) all) ends)
    ∙ finished_at k (length (b ∷ bs)) p fits
    )

-- quoteds and comments
delimited_read : (k : Kind) (o c : Class) (p : ℕ) (bs ys : List ℕ) → ((q : ℕ) (xs : List ℕ) → lexeme_by o q xs ≡ delimited k q xs) → continues_class k c ≡ false → closes_class k c ≡ true → Delimited o k c bs → length bs ≤ token_limit → ReadsToken k (length bs) p (bs ++ ys)
delimited_read k o c p bs ys by stops shuts d fits =
    subst (λ xs. ReadsToken k (length xs) p (xs ++ ys)) (sym d.whole) (
    ap (λ xs. lexeme_at p (front ∷ xs)) (append_assoc inner (back ∷ []) ys)
    ∙ ap (λ e. some (lexeme_by e p (front ∷ (inner ++ back ∷ ys)))) d.opens
    ∙ ap some (
    by p (front ∷ (inner ++ back ∷ ys))
    ∙ (λ i. ended k p (suc (long i)) (drop (long i) (inner ++ back ∷ ys)))
    ∙ ap (ended k p (suc (length inner))) (drop_at inner (back ∷ ys) (length inner) refl)
    ∙ cond-true (closes_class k (class back)) _ _ (ap (closes_class k) d.closes ∙ shuts)
    ∙ ap (λ n. finished k n p) size
    ∙ finished_at k (length (front ∷ (inner ++ back ∷ []))) p (subst (λ xs. length xs ≤ token_limit) d.whole fits)
    )
    )
  where
    front : ℕ
    front = d.front

    inner : List ℕ
    inner = d.inner

    back : ℕ
    back = d.back

    long : run k (d.inner ++ d.back ∷ ys) ≡ length d.inner
    long = leading_front (continues k) d.inner (d.back ∷ ys) d.inside (ap (continues_class k) d.closes ∙ stops)

    size : suc (length d.inner) + 1 ≡ length (d.front ∷ (d.inner ++ d.back ∷ []))
    size = omega (arith, length-append d.inner (d.back ∷ []))

line_end_read : (p : ℕ) (bs ys : List ℕ) → Obeys K.LineEnd bs → ReadsToken K.LineEnd (length bs) p (bs ++ ys)
line_end_read p [] ys h = absurd (omega (arith, h.0))
line_end_read p (b ∷ []) ys h = ap (λ c. some (lexeme_by c p (b ∷ ys))) h.1.0
line_end_read p (b ∷ d ∷ bs) ys h = absurd (omega (arith, h.0))

ends_run : (k : Kind) (ys : List ℕ) → ((b : ℕ) → runs_on (L.Token k) b ≡ continues k b) → Stops (L.Token k) ys → Ends (continues k) ys
ends_run k [] same stops = tt
ends_run k (y ∷ ys) same stops = sym (same y) ∙ stops

token_read : (k : Kind) (p : ℕ) (bs ys : List ℕ) → Obeys k bs → length bs ≤ token_limit → Stops (L.Token k) ys → ReadsToken k (length bs) p (bs ++ ys)
token_read K.LineEnd p bs ys h fits stops = line_end_read p bs ys h
token_read K.Blank p bs ys h fits stops = run_read K.Blank C.Blank p bs ys (λ _ _. refl) (λ b. same_is (class b) C.Blank) h.0 h.1 fits (ends_run K.Blank ys (λ _. refl) stops)
token_read K.Word p bs ys h fits stops = run_read K.Word C.Word p bs ys (λ _ _. refl) (λ b. same_is (class b) C.Word) h.0 h.1 fits (ends_run K.Word ys (λ _. refl) stops)
token_read K.Quoted p bs ys h fits stops = delimited_read K.Quoted C.Quote C.Quote p bs ys (λ _ _. refl) refl refl h fits
token_read K.Comment p bs ys h fits stops = delimited_read K.Comment C.Comment C.LineEnd p bs ys (λ _ _. refl) refl refl h fits

-- a step, from the lexeme that is read and the forms that are open then
some_ok : (r : Result Lexeme TokenFault) (l : Lexeme) → some r ≡ Ok (Some l) → r ≡ Ok l
some_ok (Ok m) l h = cc
some_ok (Err f) l h = absurd cc

next_read : (os now : List ℕ) (p : ℕ) (xs : List ℕ) (l : Lexeme) → lexeme_at p xs ≡ Ok (Some l) → opened os p l.kind ≡ Ok now → next os p xs ≡ Ok (Some (record { lexeme = l; opens = now }))
next_read os now p [] l h e = absurd cc
next_read os now p (b ∷ bs) l h e =
    ap (λ r. then (then (raised R.Token r) (entered os p)) (λ s. Ok (Some s))) (some_ok (lexeme p b bs) l h)
    ∙ ap (λ r. then (then {B = Step} (raised R.Bracket r) (λ now. Ok (record { lexeme = l; opens = now }))) (λ s. Ok (Some s))) e

-- pieces before those that are read next
abbrev prepend : List Piece → Result (List Piece) ReadFault → Result (List Piece) ReadFault
prepend qs (Ok ps) = Ok (qs ++ ps)
prepend qs (Err f) = Err f

first_prepend : (q : Piece) (qs : List Piece) (r : Result (List Piece) ReadFault) → first q (prepend qs r) ≡ prepend (q ∷ qs) r
first_prepend q qs (Ok ps) = refl
first_prepend q qs (Err f) = refl

prepend_append : (xs ys : List Piece) (r : Result (List Piece) ReadFault) → prepend xs (prepend ys r) ≡ prepend (xs ++ ys) r
prepend_append xs ys (Ok ps) = ap Ok (sym (append_assoc xs ys ps))
prepend_append xs ys (Err f) = refl

prepend_none : (r : Result (List Piece) ReadFault) → prepend [] r ≡ r
prepend_none (Ok ps) = refl
prepend_none (Err f) = refl

-- one lexeme that is known, at the front of known bytes
pieces_read : (os now : List ℕ) (p : ℕ) (k : _) (bs ys : List ℕ) → lexeme_at p (bs ++ ys) ≡ Ok (Some (record { kind = k; len = length bs })) → opened os p k ≡ Ok now → pieces os p 0 (bs ++ ys) ≡ first (record { kind = k; bytes = bs }) (pieces now (p + length bs) 0 ys)
pieces_read os now p k bs ys h e =
    pieces_more os p (bs ++ ys) _ (next_read os now p (bs ++ ys) (record { kind = k; len = length bs }) h e)
    ∙ (λ i. first (record { kind = k; bytes = take_at bs ys (length bs) refl i }) (pieces now (p + length bs) 0 (drop_at bs ys (length bs) refl i)))

reread : (t : Tree) (os : List ℕ) (p : ℕ) (ys : List ℕ) → TokensObey t → Apart t → nesting t + length os ≤ nesting_limit → Closes ys → pieces os p 0 (printed t ++ ys) ≡ prepend (flat t) (pieces os (p + width t) 0 ys)
reread nil os p ys obey apart fits closes = let e : p ≡ p + 0 = omega arith in ap (λ q. pieces os q 0 ys) e ∙ sym (prepend_none _)
reread (token k bs r) os p ys obey apart fits closes =
    ap (pieces os p 0) (append_assoc bs (printed r) ys)
    ∙ pieces_read os os p (L.Token k) bs (printed r ++ ys) (token_read k p bs (printed r ++ ys) obey.0 obey.1 (stops_before k r ys obey.2 apart.0 closes)) refl
    ∙ ap (first (record { kind = L.Token k; bytes = bs })) (
    reread r os (p + length bs) ys obey.2 apart.1 fits closes
    ∙ (let e : p + length bs + width r ≡ p + width (token k bs r) = omega (arith, length-append bs (printed r)) in ap (λ q. prepend (flat r) (pieces os q 0 ys)) e)
    )
    ∙ first_prepend _ (flat r) _
reread (form i r) os p ys obey apart fits closes =
    ap (λ xs. pieces os p 0 (open_byte ∷ xs)) (append_assoc (printed i) (close_byte ∷ printed r) ys)
    ∙ pieces_read os (p ∷ os) p L.Open (open_byte ∷ []) (printed i ++ tail) refl (cond-true (ltb (length os) nesting_limit) _ _ (lt-ltb (length os) nesting_limit (omega arith)))
    ∙ ap (first opening) (
    reread i (p ∷ os) (p + 1) tail obey.0 apart.0 (omega arith) refl
    ∙ ap (prepend (flat i)) (
    pieces_read (p ∷ os) os (p + 1 + width i) L.Close (close_byte ∷ []) (printed r ++ ys) refl refl
    ∙ ap (first shutting) (
    reread r os (p + 1 + width i + 1) ys obey.1 apart.1 (omega arith) closes
    ∙ ap (λ q. prepend (flat r) (pieces os q 0 ys)) size
    )
    ∙ first_prepend shutting (flat r) _
    )
    ∙ prepend_append (flat i) (shutting ∷ flat r) _
    )
    ∙ first_prepend opening (flat i ++ shutting ∷ flat r) _
  where
    tail : List ℕ
    tail = close_byte ∷ (printed r ++ ys)

    opening : Piece
    opening = record { kind = L.Open; bytes = open_byte ∷ [] }

    shutting : Piece
    shutting = record { kind = L.Close; bytes = close_byte ∷ [] }

    size : p + 1 + width i + 1 + width r ≡ p + width (form i r)
    size = omega (arith, length-append (printed i) (close_byte ∷ printed r))

pub reading-printed : (t : Tree) → WellFormed t → reading (printed t) ≡ Ok (flat t)
unfolding pieces
reading-printed t w =
    ap (pieces [] 0 0) (sym (append-nil (printed t)))
    ∙ reread t [] 0 [] w.tokens w.apart (let s = w.shallow in omega arith) tt
    ∙ ap Ok (append-nil (flat t))

-- the pieces of a tree make that tree
built-flat : (t : Tree) (ps : List Piece) (us : List Tree) → built ps ≡ record { chain = nil; behind = us } → built (flat t ++ ps) ≡ record { chain = t; behind = us }
built-flat nil ps us e = e
built-flat (token k bs r) ps us e = ap (put (L.Token k) bs) (built-flat r ps us e)
built-flat (form i r) ps us e =
    ap (λ qs. put L.Open (open_byte ∷ []) (built qs)) (append_assoc (flat i) (_ ∷ flat r) ps)
    ∙ ap (put L.Open (open_byte ∷ [])) (built-flat i (_ ∷ (flat r ++ ps)) (r ∷ us) (ap (put L.Close (close_byte ∷ [])) (built-flat r ps us e)))

pub tree_of-flat : (t : Tree) → tree_of (flat t) ≡ t
tree_of-flat t = ap tree_of (sym (append-nil (flat t))) ∙ ap (λ s. s.chain) (built-flat t [] [] refl)

pub rereading : (t : Tree) → WellFormed t → tree_read (printed t) ≡ Ok t
rereading t w = ap (λ r. then r (λ ps. Ok (tree_of ps))) (reading-printed t w) ∙ ap Ok (tree_of-flat t)

pub equal_prints : (t u : Tree) → WellFormed t → WellFormed u → printed t ≡ printed u → t ≡ u
equal_prints t u v w e = let q : Ok t ≡ Ok u = sym (rereading t v) ∙ ap tree_read e ∙ rereading u w in cc

pub no_print : (text : List ℕ) (f : ReadFault) → tree_read text ≡ Err f → (t : Tree) → WellFormed t → printed t ≡ text → ⊥
no_print text f h t w e = let q : Ok t ≡ Err f = sym (rereading t w) ∙ ap tree_read e ∙ h in cc
