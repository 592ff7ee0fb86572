-- Which cells the cells of a forest name. Assumes nothing.
--
-- tokens, links, versions   the numbers of the pools
-- slot p n                  cell n of pool p
-- then o ss                 what the option names, where it names something, before ss
use Rattle.std.specs.Prelude.{ℕ, List, ◌∷◌, Some, None, Option}
use Rattle.pool.specs.Counts.{slot}
use Rattle.pool.specs.declared.cell.Slot.{Slot}
use Rattle.forest.specs.declared.cells.Head.{Head}
use Rattle.forest.specs.declared.cells.Head.TheVariants as H

abbrev pub tokens : ℕ
tokens = 0

abbrev pub links : ℕ
links = 1

abbrev pub versions : ℕ
versions = 2

abbrev pub then : ℕ → Option ℕ → List Slot → List Slot
then p None ss = ss
then p (Some n) ss = slot p n ∷ ss

abbrev pub head_slots : Head → List Slot → List Slot
head_slots (H.Token n) ss = slot tokens n ∷ ss
head_slots (H.Form n) ss = slot links n ∷ ss
head_slots H.EmptyForm ss = ss
