use Rattle.std.proofs.Common.{sym, subst}
use Rattle.pool.specs.Cells.{Puts}
use Rattle.pool.proofs.Fitting.{full_put, fits_put}
use Rattle.pool.proofs.counted.put.Goals as goal

pub returns-in_err-index-clause-puts : goal.returns-in_err-index-clause-puts
returns-in_err-index-clause-puts g c =
    let blank = g.C.CellKind.empty in
    let cells = c.args.cells.now in
    subst (λ r. Puts blank cells c.args.cell r cells) (sym c.from_residual.ensures)
    (full_put blank cells _ c.args.cell c.requires c.in_err-index.ensures.0)

pub returns-clause-fits : goal.returns-clause-fits
returns-clause-fits g c = fits_put g.C.CellKind.empty c.args.cells.now _ _ _ _ c.requires c.in_ok-index.ensures
