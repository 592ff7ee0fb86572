use Rattle.pool.specs.Cells.{live_number, Fits}
use Rattle.forest.proofs.Letting.{GoingBack}
use Rattle.forest.proofs.forest.Forest.let_go_version.Given as goal

abbrev pub invariant-loop-next : goal.invariant-loop-next
invariant-loop-next g l =
    GoingBack l.initial.self l.self l.initial.next l.next
    × Fits (g.T.CellAllocator.allocated l.leaves) l.self.tokens
    × Fits (g.L.CellAllocator.allocated l.joints) l.self.links
    × Fits (g.V.CellAllocator.allocated l.marks) l.self.versions

abbrev pub decreases-loop-next : goal.decreases-loop-next
decreases-loop-next g l = live_number l.self.versions
