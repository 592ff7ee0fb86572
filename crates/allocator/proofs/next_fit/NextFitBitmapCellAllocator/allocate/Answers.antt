use Rattle.std.proofs.Common.{◌≡◌, ◌<◌, false, true, length, get_or, sym, refl, ap, subst, arith, rules}
use Rattle.std.proofs.lemmas.List.{length-set}
use Rattle.allocator.specs.Allocations.{clear, Allocates}
use Rattle.allocator.proofs.Searching.{next_fit_some, next_fit_none, clear-set}
use Rattle.allocator.proofs.next_fit.NextFitBitmapCellAllocator.allocate.Goals as goal
use Rattle.allocator.proofs.next_fit.NextFitBitmapCellAllocator.allocate.Goals.{In_ok-index}

pub returns-in_err-index-clause-allocates : goal.returns-in_err-index-clause-allocates
returns-in_err-index-clause-allocates c =
    let a = c.args.self.now in
    subst (λ o. Allocates a.bitmap o a.bitmap) (sym c.from_residual.ensures) (next_fit_none a.bitmap a.next (sym c.in_err-index.ensures), refl)

-- the number that was found is below the capacity, and free
found : (c : In_ok-index) → (c.in_ok-index.index < length c.args.self.now.bitmap) × (get_or c.args.self.now.bitmap c.in_ok-index.index false ≡ false)
found c = let a = c.args.self.now in next_fit_some a.bitmap a.next c.in_ok-index.index a.starts (sym c.in_ok-index.ensures)

pub set-requires : goal.set-requires
set-requires c = (found (goal.at.set-requires c).In_ok-index).0

pub overflow_add-self : goal.overflow_add-self
overflow_add-self c =
    let below = (found (goal.at.overflow_add-self c).In_ok-index).0 in
    let within = c.args.self.now.within in
    search rules

pub invariant_of-self : goal.invariant_of-self
invariant_of-self c =
    let a = c.args.self.now in
    let f = found (goal.at.invariant_of-self c).In_ok-index in
    let one = clear-set a.bitmap c.in_ok-index.index f.0 f.1 in
    let long = length-set a.bitmap c.in_ok-index.index true in
    record { within = omega (arith, a.within, ap length c.set.ensures); starts = omega (arith, f.0, ap length c.set.ensures); counts = omega (arith, a.counts, ap clear c.set.ensures, ap length c.set.ensures) }
