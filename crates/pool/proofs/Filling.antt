-- A list that is filled by calls. Assumes nothing.
use Rattle.std.proofs.Common.{◌≡◌, List, [], ◌∷◌, length, replicate, refl, subst}
use Rattle.std.specs.List.{FoldsTo}

-- calls that all answer v, and change nothing, leave a list of v
pub filled : {P A : Type 0} (R : P → A → P → Type 0) (p : P) (v : A) → ((x : A) (q : P) → R p x q → (q ≡ p) × (x ≡ v)) → (xs : List A) (q : P) → FoldsTo R p xs q → xs ≡ replicate (length xs) v
filled R p v same [] q h = refl
filled R p v same (x ∷ xs) q h =
    let s = same x h.0 h.1 in
    let rest = filled R p v same xs q (subst (λ k. FoldsTo R k xs q) s.0 h.2) in
    (λ i. s.1 i ∷ rest i)
