use Rattle.std.proofs.Common.{not, false, set, arith}
use Rattle.std.proofs.lemmas.List.{length-set}
use Rattle.std.proofs.lemmas.List.Sums.{count_by-le-length}
use Rattle.allocator.proofs.Searching.{clear_unset, set_within}
use Rattle.allocator.proofs.next_fit.NextFitBitmapCellAllocator.free.Goals as goal

pub overflow_sub-self : goal.overflow_sub-self
overflow_sub-self c =
    let a = c.args.self.now in
    let freed = c.if-not-clear.ensures in
    omega (arith, a.counts, clear_unset a.bitmap c.args.index (set_within _ _ freed.0) freed.0, count_by-le-length not (set a.bitmap c.args.index false), length-set a.bitmap c.args.index false)
