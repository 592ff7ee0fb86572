use Rattle.std.proofs.Common.{sym, subst}
use Rattle.allocator.specs.Stacks.{Waits}
use Rattle.allocator.proofs.Waiting.{waits_pop}
use Rattle.allocator.proofs.free_stack.FreeStackCellAllocator.allocate.Goals as goal

pub invariant_of-self : goal.invariant_of-self
invariant_of-self c =
    let a = c.args.self.now in
    record { waits = subst (λ bs. Waits bs c.pop.new.self.items a.mark) (sym c.set.ensures) (waits_pop _ _ (subst (λ xs. Waits a.bitmap xs a.mark) c.in-Some.ensures.items a.waits)) }
