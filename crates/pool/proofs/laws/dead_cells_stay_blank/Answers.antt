use Rattle.pool.proofs.Balancing.{dead_cells_stay_blank}
use Rattle.pool.proofs.laws.dead_cells_stay_blank.Goals as goal

pub returns : goal.returns
returns g c = dead_cells_stay_blank g.C.CellKind.empty
