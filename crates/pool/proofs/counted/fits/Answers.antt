use Rattle.std.proofs.Common.{◌≡◌, false, get_or, sym, refl, ◌∙◌, subst, zero-le, zero-add, rules, tests, arith}
use Rattle.std.specs.Bool.{⊤}
use Rattle.std.proofs.lemmas.Bool.{MatchBool-at_true}
use Rattle.std.proofs.lemmas.Iterator.{cases_from_all, YieldsList-from_range}
use Rattle.std.proofs.lemmas.List.FromFn.{length-range_with_len, get_or-range_with_len}
use Rattle.pool.specs.Cells.{live, at}
use Rattle.pool.proofs.Fitting.{bits_fit}
use Rattle.pool.proofs.counted.fits.Goals as goal

pub returns-then-capacity-size-clause-yes : goal.returns-then-capacity-size-clause-yes
returns-then-capacity-size-clause-yes g c all =
    let blank = g.C.CellKind.empty in
    let cells = c.args.cells.now in
    let bits = g.A.CellAllocator.allocated c.args.allocator.now in
    let capacity = c.capacity-capacity.result in
    let each = cases_from_all _ _ c.all.result (λ n. get_or bits n false ≡ live (at blank cells n)) (λ n. ⊤) c.all.ensures.ran (YieldsList-from_range 0 capacity capacity refl (omega arith)) (λ x q k. search (rules, tests)) (λ x q k. tt) in
    bits_fit blank cells bits (sym c.capacity-capacity.ensures ∙ c.if-capacity-size.true)
    (λ k lt. subst (λ n. get_or bits n false ≡ live (at blank cells n)) (get_or-range_with_len 0 capacity k k (omega (arith, c.capacity-capacity.ensures)) ∙ zero-add k)
    (MatchBool-at_true _ _ all each k k zero-le (omega (arith, c.capacity-capacity.ensures, length-range_with_len 0 capacity))))
