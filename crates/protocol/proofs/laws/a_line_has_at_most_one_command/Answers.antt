use Rattle.protocol.proofs.Telling.{one_request}
use Rattle.protocol.proofs.laws.a_line_has_at_most_one_command.Goals as goal

pub returns : goal.returns
returns c = one_request
