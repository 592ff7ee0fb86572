use Rattle.forest.specs.Blanks.{blank_token}
use Rattle.forest.specs.Pools.{token_pool}
use Rattle.forest.proofs.Putting.{put_moves_in}
use Rattle.forest.proofs.forest_cell.TokenCellForestCell.put.Goals as goal

pub returns-clause-moved : goal.returns-clause-moved
returns-clause-moved g c = put_moves_in token_pool blank_token c.args.forest.now c.requires.covers _ c.args.self c.put.result c.requires.held c.put.ensures.puts
