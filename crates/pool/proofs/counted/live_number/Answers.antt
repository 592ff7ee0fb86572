use Rattle.std.proofs.Common.{rules, arith, ◌-◌, ◌^◌, ◌≤◌, length}
use Rattle.std.proofs.lemmas.Iterator.{YieldsList-from_slice}
use Rattle.std.proofs.lemmas.Iterator.Adapters.{fits_from_length, at_most_from_yields_List}
use Rattle.pool.proofs.counted.live_number.Goals as goal

-- each cell adds at most one
pub sum-requires-clause-fits : goal.sum-requires-clause-fits
sum-requires-clause-fits g c =
    let few : length c.args.cells.now ≤ 2 ^ 64 - 1 = search rules in
    fits_from_length _ _ (2 ^ 64 - 1) (2 ^ 64) (at_most_from_yields_List (YieldsList-from_slice c.args.cells.now cc) few) c.map.ensures.closure (omega arith) (λ x r q k. search rules)
