-- A number that is spelt from its last digit to its first, and pieces that are put one after the other. Assumes nothing.
use Rattle.std.proofs.Common.{◌≡◌, ℕ, ◌+◌, ◌-◌, ◌/◌, ◌%◌, ◌^◌, ◌<◌, ◌≤◌, List, [], ◌∷◌, ◌++◌, length, get_or, take, drop, set, decimal, sym, ap, ◌∙◌, arith}
use Rattle.std.proofs.lemmas.List.{append_assoc, append-nil, length-append, length-drop, take-append-drop, take_more, drop-set, drop-drop}
use Rattle.notation.specs.Numbers.{numbered}
use Rattle.std.proofs.lemmas.Fmt.{decimal_digit, decimal_step, decimal_nonempty, length-decimal-le}

-- what is left to spell, before the digits that are spelt
abbrev pub Spelt : ℕ → ℕ → ℕ → List ℕ → Type 0
Spelt number left first digits = (length digits ≡ 20) × (first ≤ 20) × (left < 2 ^ 64) × (decimal left ++ drop first digits ≡ decimal number)

module _ (number left first : ℕ) (digits : List ℕ) (small : number < 2 ^ 64) (h : Spelt number left first digits) where
  pub digit_room : 0 < first
  digit_room =
      let lengths : length (decimal left) + length (drop first digits) ≡ length (decimal number) = sym (length-append (decimal left) (drop first digits)) ∙ ap length h.3 in
      omega (arith, lengths, length-drop first digits, h.0, h.1, decimal_nonempty left h.2, length-decimal-le 20 number (omega arith) (omega (arith, small)) small)

  put_digit : (y : ℕ) → drop (first - 1) (set digits (first - 1) y) ≡ y ∷ drop first digits
  put_digit y =
      let again : first - 1 + 1 ≡ first = omega (arith, digit_room) in
      drop-set digits (first - 1) y (omega (arith, digit_room, h.0, h.1)) ∙ ap (λ n. y ∷ drop n digits) again

  pub one_more : 10 ≤ left → decimal (left / 10) ++ drop (first - 1) (set digits (first - 1) (48 + left % 10)) ≡ decimal number
  one_more many =
      ap (λ xs. decimal (left / 10) ++ xs) (put_digit (48 + left % 10))
      ∙ sym (append_assoc (decimal (left / 10)) ((48 + left % 10) ∷ []) (drop first digits))
      ∙ ap (λ xs. xs ++ drop first digits) (sym (decimal_step left many h.2))
      ∙ h.3

  pub last_one : left < 10 → drop (first - 1) (set digits (first - 1) (48 + left)) ≡ decimal number
  last_one few = put_digit (48 + left) ∙ ap (λ xs. xs ++ drop first digits) (sym (decimal_digit left few)) ∙ h.3

-- one number more behind others
pub numbered_more : (ns : List ℕ) (i : ℕ) → i < length ns → numbered (take (i + 1) ns) ≡ numbered (take i ns) ++ (32 ∷ decimal (get_or ns i 0))
numbered_more ns i lt = ap numbered (take_more ns i 0 lt) ∙ push (take i ns) (get_or ns i 0)
  where
    push : (xs : List ℕ) (n : ℕ) → numbered (xs ++ (n ∷ [])) ≡ numbered xs ++ (32 ∷ decimal n)
    push [] n = ap (λ bs. 32 ∷ bs) (append-nil (decimal n))
    push (x ∷ xs) n = ap (λ bs. 32 ∷ bs) (ap (λ bs. decimal x ++ bs) (push xs n) ∙ sym (append_assoc (decimal x) (numbered xs) (32 ∷ decimal n)))

-- bytes at the start of a buffer, before its rest
pub pasted : (before after bs : List ℕ) (n : ℕ) → take n after ≡ bs → drop n after ≡ drop n before → after ≡ bs ++ drop n before
pasted before after bs n front rest = sym (take-append-drop n after) ∙ (λ i. front i ++ rest i)

-- what is the same from one place on is the same further on
pub same_further : (a b : ℕ) (xs ys : List ℕ) → a ≤ b → drop a xs ≡ drop a ys → drop b xs ≡ drop b ys
same_further a b xs ys le e =
    let sum : a + (b - a) ≡ b = omega (arith, le) in
    ap (λ n. drop n xs) (sym sum) ∙ sym (drop-drop (b - a) a xs) ∙ ap (drop (b - a)) e ∙ drop-drop (b - a) a ys ∙ ap (λ n. drop n ys) sum
