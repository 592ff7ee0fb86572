use Rattle.std.specs.Fmt.{HasWritten, IsPlainFormatter}
use Rattle.inspect.specs.Outlines.{indent}
use Rattle.inspect.proofs.outline.HeadDisplay.fmt.Given as goal

abbrev pub invariant-loop-level : goal.invariant-loop-level
invariant-loop-level g l = IsPlainFormatter l.initial.f → HasWritten g.W.Write.write_str_gives l.initial.f (indent l._level) l.f
