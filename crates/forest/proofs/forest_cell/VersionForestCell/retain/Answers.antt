use Rattle.forest.specs.Blanks.{blank_version}
use Rattle.forest.specs.Pools.{version_pool}
use Rattle.forest.proofs.Putting.{retain_moves_in}
use Rattle.forest.proofs.forest_cell.VersionForestCell.retain.Goals as goal

pub returns-clause-moved : goal.returns-clause-moved
returns-clause-moved c = retain_moves_in version_pool blank_version c.args.forest.now c.requires.covers _ c.args.n c.retain.ensures.retains
