-- antt computes the rule at all 256 values, compares that list with the table, and reads it off at one value.
use Rattle.std.proofs.Common.{zero-add, rules}
use Rattle.std.proofs.lemmas.List.FromFn.{get_or-map-range_with_len}
use Rattle.syntax.specs.Classes.{class}
use Rattle.syntax.specs.declared.class.Class.TheVariants.{Open}
use Rattle.syntax.proofs.class.class_of.Goals as goal

pub returns : goal.returns
returns c = get_or-map-range_with_len class 0 256 c.args.byte c.args.byte Open (search rules) (zero-add c.args.byte)
