-- A request is told by its letter and its arguments. Assumes nothing.
use Rattle.std.proofs.Common.{◌≡◌, ℕ, ◌<◌, List, [], ◌∷◌, get_or, drop, decimal, ap, arith, rules}
use mathlib.Core.List.{append_cancel_right}
use Rattle.std.proofs.lemmas.Fmt.{decimal_injective}
use Rattle.notation.specs.Numbers.{number_bound, spaced}
use Rattle.protocol.specs.Commands.{Request, load, splice, fork, undo, release, print, same, Small, letter, arguments, written, bracketed}
use Rattle.protocol.proofs.Pathways.{spaced_unique, bracketed_unique}

one_number : (a b : ℕ) → a < number_bound → b < number_bound → decimal a ≡ decimal b → a ≡ b
one_number a b sa sb e = decimal_injective a b (omega (arith, sa)) (omega (arith, sb)) e

two_numbers : (a b c d : ℕ) → a < number_bound → b < number_bound → c < number_bound → d < number_bound → spaced a (decimal b) ≡ spaced c (decimal d) → (a ≡ c) × (b ≡ d)
two_numbers a b c d sa sb sc sd e = let one = spaced_unique a c (decimal b) (decimal d) sa sc e in (one.0, one_number b d sb sd one.1)

load_told : (h g : ℕ) (t u : List ℕ) → h < number_bound → g < number_bound → spaced h t ≡ spaced g u → load h t ≡ load g u
load_told h g t u sh sg e = let one = spaced_unique h g t u sh sg e in (λ i. load (one.0 i) (one.1 i))

-- a fork, or whether two handles are the same
pair_told : (make : ℕ → ℕ → Request) (a b c d : ℕ) → a < number_bound → b < number_bound → c < number_bound → d < number_bound → spaced a (decimal b) ≡ spaced c (decimal d) → make a b ≡ make c d
pair_told make a b c d sa sb sc sd e = let both = two_numbers a b c d sa sb sc sd e in (λ i. make (both.0 i) (both.1 i))

splice_told : (h : ℕ) (p : List ℕ) (k n : ℕ) (t : List ℕ) (g : ℕ) (q : List ℕ) (j m : ℕ) (u : List ℕ) → Small (splice h p k n t) → Small (splice g q j m u) → arguments (splice h p k n t) ≡ arguments (splice g q j m u) → splice h p k n t ≡ splice g q j m u
splice_told h p k n t g q j m u sr ss e =
    let one = spaced_unique h g (bracketed p (32 ∷ spaced k (spaced n t))) (bracketed q (32 ∷ spaced j (spaced m u))) sr.0 ss.0 e in
    let two = bracketed_unique p q (32 ∷ spaced k (spaced n t)) (32 ∷ spaced j (spaced m u)) sr.1 ss.1 one.1 in
    let three = spaced_unique k j (spaced n t) (spaced m u) sr.2 ss.2 (ap (drop 1) two.1) in
    let four = spaced_unique n m t u sr.3 ss.3 three.1 in
    (λ i. splice (one.0 i) (two.0 i) (three.0 i) (four.0 i) (four.1 i))

told : (r s : Request) → Small r → Small s → letter r ≡ letter s → arguments r ≡ arguments s → r ≡ s
told (load h t) s sr ss l e = search (rules, load_told)
told (splice h p k n t) s sr ss l e = search (rules, splice_told)
told (fork a b) s sr ss l e = search (rules, pair_told fork)
told (undo h) s sr ss l e = search (rules, one_number)
told (release h) s sr ss l e = search (rules, one_number)
told (print h) s sr ss l e = search (rules, one_number)
told (same a b) s sr ss l e = search (rules, pair_told same)

pub one_request : (r s : Request) → Small r → Small s → written r ≡ written s → r ≡ s
one_request r s sr ss e = told r s sr ss (ap (λ bs. get_or bs 1 0) e) (append_cancel_right (arguments r) (arguments s) (41 ∷ []) (ap (drop 3) e))
