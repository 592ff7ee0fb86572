use Rattle.protocol.proofs.Asking.{no_letter}
use Rattle.protocol.proofs.parser.command.Goals as goal

pub returns-in_err-letter : goal.returns-in_err-letter
returns-in_err-letter c = rw c.from_residual.ensures (no_letter c.args.line.now c.in_err-letter.ensures)
