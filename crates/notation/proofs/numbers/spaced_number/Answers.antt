use Rattle.notation.proofs.Digits.{not_spaced}
use Rattle.notation.proofs.numbers.spaced_number.Goals as goal

pub returns-in_err-rest : goal.returns-in_err-rest
returns-in_err-rest c =
    rw c.from_residual-in_err-rest.ensures
    (not_spaced c.args.bytes.now c.in_ok-value.behind.now c.in_ok-value.value c.in_ok-value.ensures c.in_err-rest.ensures)
