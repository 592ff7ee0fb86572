use Rattle.forest.specs.Blanks.{blank_token}
use Rattle.forest.specs.Pools.{token_pool}
use Rattle.forest.proofs.Putting.{release_moves_in}
use Rattle.forest.proofs.forest_cell.TokenCellForestCell.release.Goals as goal

pub returns-clause-moved : goal.returns-clause-moved
returns-clause-moved g c = release_moves_in token_pool blank_token c.args.forest.now c.requires.covers _ c.args.n c.release.result c.release.ensures.releases c.requires.held
