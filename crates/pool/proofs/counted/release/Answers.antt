use Rattle.std.proofs.Common.{rules, arith}
use Rattle.std.proofs.lemmas.Bool.{lt-ltb}
use Rattle.pool.proofs.Fitting.{fits_kept, fits_freed}
use Rattle.pool.proofs.counted.release.Goals as goal

pub returns-then-counted-gt-LAST_HOLDER-clause-fits : goal.returns-then-counted-gt-LAST_HOLDER-clause-fits
returns-then-counted-gt-LAST_HOLDER-clause-fits g c = fits_kept g.C.CellKind.empty _ _ _ _ (lt-ltb 0 _ (omega arith)) c.requires.alive c.requires.fits

pub returns-clause-fits : goal.returns-clause-fits
returns-clause-fits g c =
    fits_freed g.C.CellKind.empty _ _ _ _ _ c.free-freed.result (search rules) c.requires.alive c.requires.fits c.free-freed.ensures
