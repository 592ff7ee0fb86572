use Rattle.std.proofs.Common.{◌≡◌, true, false, [], ◌∷◌, ◌++◌, codes, decimal, arith}
use Rattle.std.proofs.lemmas.Fmt.{decimal_digit}
use Rattle.protocol.specs.Answers.{status}
use Rattle.protocol.proofs.laws.the_example_is_written_so.Goals as goal

pub returns : goal.returns
returns c =
    let d0 : decimal 0 ≡ 48 ∷ [] = decimal_digit 0 (omega arith) in
    let d1 : decimal 1 ≡ 49 ∷ [] = decimal_digit 1 (omega arith) in
    let d2 : decimal 2 ≡ 50 ∷ [] = decimal_digit 2 (omega arith) in
    let d3 : decimal 3 ≡ 51 ∷ [] = decimal_digit 3 (omega arith) in
    let d4 : decimal 4 ≡ 52 ∷ [] = decimal_digit 4 (omega arith) in
    let d5 : decimal 5 ≡ 53 ∷ [] = decimal_digit 5 (omega arith) in (
      (λ i. 40 ∷ 76 ∷ 32 ∷ ((d0 i ++ (32 ∷ codes "(a b)")) ++ (41 ∷ []))),
      (λ i. 40 ∷ 83 ∷ 32 ∷ ((d0 i ++ (32 ∷ 40 ∷ (d0 i ++ (41 ∷ 32 ∷ (d2 i ++ (32 ∷ (d1 i ++ (32 ∷ codes "c")))))))) ++ (41 ∷ []))),
      (λ i. 40 ∷ 80 ∷ 32 ∷ (d0 i ++ (41 ∷ []))),
      (λ i. 40 ∷ 85 ∷ 32 ∷ (d0 i ++ (41 ∷ []))),
      (λ i. 40 ∷ 69 ∷ 32 ∷ ((d0 i ++ (32 ∷ d1 i)) ++ (41 ∷ []))),
      (λ i. status true ++ (76 ∷ ((32 ∷ (d3 i ++ (32 ∷ (d4 i ++ (32 ∷ (d1 i ++ (32 ∷ (d0 i ++ (32 ∷ (d0 i ++ (32 ∷ (d0 i ++ [])))))))))))) ++ codes ")\n"))),
      (λ i. (status true ++ (80 ∷ ((32 ∷ (d5 i ++ [])) ++ codes ")\n"))) ++ (codes "(a c)" ++ codes "\n")),
      (λ i. (status false ++ (69 ∷ ((32 ∷ (d2 i ++ [])) ++ codes ")\n"))) ++ []),
    )
