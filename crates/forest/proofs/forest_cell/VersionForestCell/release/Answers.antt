use Rattle.forest.specs.Blanks.{blank_version}
use Rattle.forest.specs.Pools.{version_pool}
use Rattle.forest.proofs.Putting.{release_moves_in}
use Rattle.forest.proofs.forest_cell.VersionForestCell.release.Goals as goal

pub returns-clause-moved : goal.returns-clause-moved
returns-clause-moved g c = release_moves_in version_pool blank_version c.args.forest.now c.requires.covers _ c.args.n c.release.result c.release.ensures.releases c.requires.held
