-- Laws over the meaning of an allocator. Assumes nothing.
use Rattle.std.proofs.Common.{◌≡◌, ℕ, ◌<◌, Bool, true, false, List, length, get_or, set, Some, None, Option, sym, refl, ap, ◌∙◌, arith}
use Rattle.std.proofs.lemmas.List.{set-set, set-get_or, get_or-set_same}
use Rattle.std.proofs.lemmas.Bool.{false≢true}
use Rattle.allocator.specs.Allocations.{clear, Allocates, Frees, first_clear}
use Rattle.allocator.proofs.Searching.{clear-set, found_within, none_clear}

pub available_clear : (bits : List Bool) → ((n : ℕ) → n < length bits → get_or bits n false ≡ false → 0 < clear bits) × (0 < clear bits → (n : ℕ) × (n < length bits) × (get_or bits n false ≡ false))
available_clear bits = (λ n lt h. omega (arith, clear-set bits n lt h), λ some. by (first_clear bits 0) refl some)
  where
    by : (o : Option ℕ) → first_clear bits 0 ≡ o → 0 < clear bits → (n : ℕ) × (n < length bits) × (get_or bits n false ≡ false)
    by (Some m) e some = let f = found_within bits 0 m e (omega arith) in (m, f.0, f.1)
    by None e some = absurd (omega (arith, none_clear bits 0 e))

allocated_now : (before after : List Bool) (n : ℕ) → Allocates before (Some n) after → get_or after n false ≡ true
allocated_now before after n h = ap (λ bs. get_or bs n false) h.2 ∙ get_or-set_same before n true false h.0

-- what was allocated and then freed is as it was
pub given_back : (before after last : List Bool) (n : ℕ) (r : Bool) → Allocates before (Some n) after → Frees after n r last → last ≡ before
given_back before after last n true h f =
    f.1 ∙ ap (λ bs. set bs n false) h.2 ∙ set-set before n true false ∙ ap (set before n) (sym h.1) ∙ set-get_or before n false
given_back before after last n false h f = absurd (false≢true (sym f.0 ∙ allocated_now before after n h))
