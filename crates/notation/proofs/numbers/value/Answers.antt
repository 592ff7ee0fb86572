use Rattle.std.proofs.Common.{take, refl, subst, rules}
use Rattle.std.proofs.lemmas.List.{take_all}
use Rattle.std.proofs.lemmas.Fn.{fold_over, fronts}
use Rattle.std.proofs.lemmas.Iterator.{YieldsList-from_slice, YieldsList-from_take}
use Rattle.std.specs.Iterator.Adapters.{take_steps}
use Rattle.notation.proofs.Digits.{ValueOf, one_digit_more, read_so}
use Rattle.notation.proofs.numbers.value.Goals as goal

pub returns-in_default : goal.returns-in_default
returns-in_default c =
    let folded : ValueOf (take c.take.result.n c.args.digits.now) c.fold-value.result =
    fold_over (take_steps fronts) (λ y. y.now) _ ValueOf _ (λ ys a x b f' j k. let more = one_digit_more ys a x.now b j in search rules)
    c.take.result _ _ _ (YieldsList-from_take {s = c.take.result} c.take.result.n (YieldsList-from_slice {s = c.take.result.iter} c.args.digits.now (search rules)) refl).runs (λ all few. refl) c.fold-value.ensures.ran in
    rw c.ok.ensures.value
    (read_so c.args.digits.now c.fold-value.result c.try_from.result c.requires (search rules) (search rules) (λ e. search rules) (subst (λ ds. ValueOf ds c.fold-value.result) (take_all c.take.result.n c.args.digits.now (search rules)) folded) c.try_from.ensures)
