use Rattle.pool.proofs.Balancing.{live_cells_balance}
use Rattle.pool.proofs.laws.live_cells_balance.Goals as goal

pub returns : goal.returns
returns g c = live_cells_balance g.C.CellKind.empty
