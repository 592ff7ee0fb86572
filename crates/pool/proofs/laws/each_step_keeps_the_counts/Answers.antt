use Rattle.pool.proofs.Counting.{each_step_keeps_the_counts}
use Rattle.pool.proofs.laws.each_step_keeps_the_counts.Goals as goal

pub returns : goal.returns
returns g c before after step does l p has is holders later moves counts =
    each_step_keeps_the_counts g.C.CellKind.slots g.C.CellKind.empty l p before after has is holders later counts step does moves
