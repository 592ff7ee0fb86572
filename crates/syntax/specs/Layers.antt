-- The faults of each layer. Assumes nothing.
use Rattle.syntax.specs.declared.fault.BracketFaultKind.{BracketFaultKind}
use Rattle.syntax.specs.declared.fault.Fault.{Fault}
use Rattle.syntax.specs.declared.fault.TokenFaultKind.{TokenFaultKind}

abbrev pub TokenFault : Type 0
TokenFault = Fault TokenFaultKind

abbrev pub BracketFault : Type 0
BracketFault = Fault BracketFaultKind
