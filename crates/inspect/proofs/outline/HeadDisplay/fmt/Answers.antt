use Rattle.std.proofs.Common.{sym, rules}
use Rattle.std.proofs.Output.{has_written_append, has_written_of_eq}
use Rattle.inspect.proofs.Indents.{indent_more}
use Rattle.inspect.proofs.outline.HeadDisplay.fmt.Goals as goal

pub loop-level-preserved : goal.loop-level-preserved
loop-level-preserved g c plain =
    has_written_of_eq _ _ _ _ _ (sym (indent_more c.loop-level._level)) (has_written_append _ _ _ _ _ _ (c.loop-level.invariant plain) (search rules))
