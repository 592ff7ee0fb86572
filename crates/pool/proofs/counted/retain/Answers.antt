use Rattle.std.proofs.Common.{arith}
use Rattle.std.proofs.lemmas.Bool.{lt-ltb}
use Rattle.pool.proofs.Fitting.{fits_kept}
use Rattle.pool.proofs.counted.retain.Goals as goal

pub returns-clause-fits : goal.returns-clause-fits
returns-clause-fits g c bits = fits_kept g.C.CellKind.empty _ bits _ _ (lt-ltb 0 _ (omega arith)) c.requires.alive
