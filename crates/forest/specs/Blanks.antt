-- The blank cells of a forest. Assumes nothing.
use Rattle.std.specs.Prelude.{replicate, None}
use Rattle.syntax.specs.declared.kind.Kind.TheVariants.{LineEnd}
use Rattle.forest.specs.declared.cells.Head.TheVariants.{EmptyForm}
use Rattle.forest.specs.declared.cells.Link.{Link}
use Rattle.forest.specs.declared.cells.TokenCell.{TokenCell}
use Rattle.forest.specs.declared.cells.Version.{Version}

abbrev pub blank_token : TokenCell
blank_token = record { kind = LineEnd; length = 0; bytes = replicate 32 0 }

abbrev pub blank_link : Link
blank_link = record { head = EmptyForm; tail = None; width = 0 }

abbrev pub blank_version : Version
blank_version = record { root = None; older = None; steps = 0 }
