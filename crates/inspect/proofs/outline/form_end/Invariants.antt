use Rattle.std.proofs.Common.{◌-◌, length}
use Rattle.syntax.specs.Readers.{text_of, place_of}
use Rattle.inspect.proofs.Closing.{Going}
use Rattle.inspect.proofs.outline.form_end.Given as goal

abbrev pub invariant-loop-reader : goal.invariant-loop-reader
invariant-loop-reader l = Going l.initial.reader l.reader l.inside

abbrev pub decreases-loop-reader : goal.decreases-loop-reader
decreases-loop-reader l = length (text_of l.initial.reader) - place_of l.reader
