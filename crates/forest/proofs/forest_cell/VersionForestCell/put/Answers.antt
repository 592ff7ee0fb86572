use Rattle.forest.specs.Blanks.{blank_version}
use Rattle.forest.specs.Pools.{version_pool}
use Rattle.forest.proofs.Putting.{put_moves_in}
use Rattle.forest.proofs.forest_cell.VersionForestCell.put.Goals as goal

pub returns-clause-moved : goal.returns-clause-moved
returns-clause-moved g c = put_moves_in version_pool blank_version c.args.forest.now c.requires.covers _ c.args.self c.put.result c.requires.held c.put.ensures.puts
