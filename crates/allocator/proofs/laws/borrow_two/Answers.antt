use Rattle.std.proofs.Common.{subst}
use Rattle.allocator.specs.Allocations.{Frees}
use Rattle.allocator.proofs.Meaning.{given_back}
use Rattle.allocator.proofs.laws.borrow_two.Goals as goal

pub returns-in_default-clause-same : goal.returns-in_default-clause-same
returns-in_default-clause-same g c =
    given_back _ _ _ _ c.free-freed.result c.in_ok-first.ensures
    (subst (λ bs. Frees bs c.in_ok-first.first c.free-freed.result (g.A.CellAllocator.allocated c.free-freed.new.self)) c.in_default.ensures.1 c.free-freed.ensures)

pub returns-clause-same : goal.returns-clause-same
returns-clause-same g c =
    let back = given_back _ _ _ _ c.free-freed-2.result c.in-Some.ensures c.free-freed-2.ensures in
    given_back _ _ _ _ c.free-freed-3.result c.in_ok-first.ensures
    (subst (λ bs. Frees bs c.in_ok-first.first c.free-freed-3.result (g.A.CellAllocator.allocated c.free-freed-3.new.self)) back c.free-freed-3.ensures)
