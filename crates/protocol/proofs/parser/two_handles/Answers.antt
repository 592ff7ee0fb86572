use Rattle.protocol.proofs.Asking.{not_two}
use Rattle.protocol.proofs.parser.two_handles.Goals as goal

pub returns-in_err-other : goal.returns-in_err-other
returns-in_err-other c =
    rw c.from_residual-in_err-other.ensures
    (not_two c.args.arguments.now c.in_ok-one.rest.now c.in_ok-one.one c.in_ok-one.ensures.0 c.in_ok-one.ensures.1 c.in_err-other.ensures)
