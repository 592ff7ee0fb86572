use Rattle.forest.specs.Blanks.{blank_link}
use Rattle.forest.specs.Pools.{link_pool}
use Rattle.forest.proofs.Putting.{retain_moves_in}
use Rattle.forest.proofs.forest_cell.LinkForestCell.retain.Goals as goal

pub returns-clause-moved : goal.returns-clause-moved
returns-clause-moved c = retain_moves_in link_pool blank_link c.args.forest.now c.requires.covers _ c.args.n c.retain.ensures.retains
