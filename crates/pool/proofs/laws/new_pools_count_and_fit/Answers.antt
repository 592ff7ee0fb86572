use Rattle.pool.proofs.Counting.{new_pools_count, new_page, new_fits, new_tidy}
use Rattle.pool.proofs.laws.new_pools_count_and_fit.Goals as goal

pub returns : goal.returns
returns g c =
    let blank = g.C.CellKind.empty in
    (new_pools_count, new_page g.C.CellKind.slots blank g.met.C.CellKind.names_nothing, new_fits blank, new_tidy blank)
