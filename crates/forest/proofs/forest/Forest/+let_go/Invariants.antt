use Rattle.pool.specs.Cells.{live_number, Fits}
use Rattle.forest.proofs.Letting.{Going}
use Rattle.forest.proofs.forest.Forest.+let_go.Given as goal

abbrev pub decreases-let_go : goal.decreases-let_go
decreases-let_go g l = live_number l.self.now.links

abbrev pub invariant-loop-next : goal.invariant-loop-next
invariant-loop-next g l =
    Going l.initial.self l.self l.initial.next l.next
    × Fits (g.T.CellAllocator.allocated l.leaves) l.self.tokens
    × Fits (g.L.CellAllocator.allocated l.joints) l.self.links

abbrev pub decreases-loop-next : goal.decreases-loop-next
decreases-loop-next g l = live_number l.self.links
