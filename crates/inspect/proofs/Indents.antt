-- Indents, one form deeper. Assumes nothing.
use Rattle.std.proofs.Common.{◌≡◌, ℕ, zero, suc, ◌+◌, ◌++◌, codes, refl, ap, ◌∙◌, add-one}
use Rattle.inspect.specs.Outlines.{indent}

indent_suc : (d : ℕ) → indent (suc d) ≡ indent d ++ codes "  "
indent_suc zero = refl
indent_suc (suc d) = ap (λ xs. codes "  " ++ xs) (indent_suc d)

pub indent_more : (d : ℕ) → indent (d + 1) ≡ indent d ++ codes "  "
indent_more d = ap indent (add-one d) ∙ indent_suc d
