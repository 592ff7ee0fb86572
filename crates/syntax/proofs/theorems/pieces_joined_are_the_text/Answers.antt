use Rattle.std.proofs.Common.{[]}
use Rattle.syntax.proofs.Joining.{pieces_joined}
use Rattle.syntax.proofs.theorems.pieces_joined_are_the_text.Goals as goal

pub returns : goal.returns
returns c text ps e = pieces_joined [] 0 text ps e
