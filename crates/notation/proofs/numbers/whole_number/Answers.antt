use Rattle.std.proofs.Common.{rules}
use Rattle.notation.proofs.Digits.{not_whole}
use Rattle.notation.proofs.numbers.whole_number.Goals as goal

pub returns-in_default : goal.returns-in_default
returns-in_default c = search (rules, not_whole c.args.bytes.now c.in_ok-value.field-0.1.now c.in_ok-value.field-0.0 c.in_ok-value.ensures)
