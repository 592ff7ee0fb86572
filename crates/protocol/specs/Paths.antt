-- What a path's fields mean. Assumes nothing.
--
-- steps_of p   its steps, in their order
use Rattle.std.specs.Prelude.{ℕ, List, take}
use Rattle.protocol.specs.declared.path.Path.{Path}

abbrev pub steps_of : Path → List ℕ
steps_of p = take p.length p.steps
