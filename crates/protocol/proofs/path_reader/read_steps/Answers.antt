use Rattle.std.proofs.Common.{◌<◌, [], ◌∷◌, length, sym, ap, ◌∙◌, subst, arith}
use Rattle.std.specs.List.{AllByRecursion}
use Rattle.std.proofs.lemmas.List.{length-append}
use Rattle.notation.specs.Numbers.{number_bound}
use Rattle.protocol.specs.Paths.{steps_of}
use Rattle.protocol.proofs.Pathways.{Reading, all_push, no_number, ends_badly, goes_further}
use Rattle.protocol.proofs.path_reader.read_steps.Goals as goal

pub returns-in_err-step : goal.returns-in_err-step
returns-in_err-step c =
    rw c.from_residual.ensures
    (no_number c.args.inside.now _ c.loop-step.left.now c.loop-step.invariant.reading c.in_err-step.ensures)

pub returns-in_err-left : goal.returns-in_err-left
returns-in_err-left c =
    rw c.from_residual-in_err-left.ensures
    (ends_badly c.args.inside.now _ c.loop-step.left.now c.loop-step.invariant.reading c.in_ok-step.step c.in_ok-step.behind.now c.in_ok-step.ensures c.in_default-after.ensures c.in_err-left.ensures)

pub loop-step-preserved : goal.loop-step-preserved
loop-step-preserved c =
    let inv = c.loop-step.invariant in
    let done = steps_of c.loop-step.path in
    let step = c.in_ok-step.step in
    let left = c.in_ok-left.left.now in
    let front = c.in_ok-step.ensures in
    let pushed = c.in-Ok.ensures in
    record {
      within = omega (arith, pushed.length, pushed.room);
      counted = ap length pushed.steps ∙ length-append done (step ∷ []) ∙ omega (arith, inv.counted, pushed.length);
      reading =
          subst (λ steps. Reading c.args.inside.now steps left) (sym pushed.steps)
          (goes_further c.args.inside.now done c.loop-step.left.now inv.reading step c.in_ok-step.behind.now front left c.in_ok-left.ensures);
      small = subst (AllByRecursion (λ s. s < number_bound)) (sym pushed.steps) (all_push (λ s. s < number_bound) done step inv.small front.0);
    }
