use Rattle.std.proofs.Common.{◌≡◌, length, take, drop, replicate, ◌++◌, sym, ap, ◌∙◌, rules, tests, arith}
use Rattle.std.proofs.lemmas.List.{length-take-le}
use Rattle.std.proofs.Math.Seq.{take-append_seam}
use Rattle.pool.proofs.Filling.{filled}
use Rattle.pool.proofs.lent.blank_front.Goals as goal

pub returns-clause-front : goal.returns-clause-front
returns-clause-front g c =
    let front = c.fill_with.new.self in
    let long : length front ≡ c.min-size.result = omega (arith, c.fill_with.ensures.len, length-take-le c.min-size.result c.args.cells.now, c.min-size.ensures) in
    ap (λ n. take n (front ++ drop c.min-size.result c.args.cells.now)) (sym long)
    ∙ take-append_seam front (drop c.min-size.result c.args.cells.now)
    ∙ filled _ _ c.vacant-vacant.result (λ x q k. search (rules, tests)) front _ c.fill_with.ensures.ran.1
    ∙ (λ i. replicate (long i) (c.vacant-vacant.ensures i))
