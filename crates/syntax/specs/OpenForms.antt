-- The forms that are open, as a stack in an array. Assumes nothing.
--
-- newest xs n     the first n entries of xs, the last of them first
-- open_places o   the places of the open bytes of the forms that are open, the newest first
use Rattle.std.specs.Prelude.{ℕ, zero, suc, List, [], ◌∷◌, slice_index}
use Rattle.syntax.specs.declared.open_forms.OpenForms.{OpenForms}

abbrev pub newest : List ℕ → ℕ → List ℕ
newest xs zero = []
newest xs (suc n) = slice_index xs n ∷ newest xs n

abbrev pub open_places : OpenForms → List ℕ
open_places o = newest o.places o.depth
