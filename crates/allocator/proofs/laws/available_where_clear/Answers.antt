use Rattle.allocator.proofs.Meaning.{available_clear}
use Rattle.allocator.proofs.laws.available_where_clear.Goals as goal

pub returns : goal.returns
returns c = available_clear
