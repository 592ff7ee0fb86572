use Rattle.std.proofs.Common.{sym, subst, arith}
use Rattle.allocator.specs.Stacks.{Waits}
use Rattle.allocator.proofs.Waiting.{room_above, waits_push}
use Rattle.allocator.proofs.free_stack.FreeStackCellAllocator.free.Goals as goal

pub push-requires : goal.push-requires
push-requires c =
    let room = room_above c.args.self.now.waits c.args.index c.if-not-clear.ensures.0 in
    (omega arith, omega arith)

pub invariant_of-self-2 : goal.invariant_of-self-2
invariant_of-self-2 c =
    let a = c.args.self.now in
    let freed = c.if-not-clear.ensures in
    record { waits = subst (λ bs. Waits bs c.push.new.self.items a.mark) (sym freed.1) (rw c.push.ensures.items (waits_push a.waits c.args.index freed.0)) }
