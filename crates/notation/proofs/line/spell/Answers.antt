use Rattle.std.proofs.Common.{◌∙◌, arith}
use Rattle.std.proofs.lemmas.List.{length-set}
use Rattle.notation.proofs.Spelling.{digit_room, one_more, last_one}
use Rattle.notation.proofs.line.spell.Goals as goal

pub overflow_sub-first : goal.overflow_sub-first
overflow_sub-first c = digit_room c.args.number c.loop-left.left c.loop-left.first c.loop-left.digits (omega (arith, c.ranges.number)) c.loop-left.invariant

pub loop-left-preserved : goal.loop-left-preserved
loop-left-preserved c = (
  length-set c.loop-left.digits _ _ ∙ c.loop-left.invariant.0,
  omega (arith, c.loop-left.invariant.1),
  omega (arith, c.loop-left.invariant.2),
  one_more c.args.number c.loop-left.left c.loop-left.first c.loop-left.digits (omega (arith, c.ranges.number)) c.loop-left.invariant c.loop-left-test.true,
)

pub overflow_sub-first-2 : goal.overflow_sub-first-2
overflow_sub-first-2 c = digit_room c.args.number c.loop-left.left c.loop-left.first c.loop-left.digits (omega (arith, c.ranges.number)) c.loop-left.invariant

pub returns-clause-spelt : goal.returns-clause-spelt
returns-clause-spelt c = last_one c.args.number c.loop-left.left c.loop-left.first c.loop-left.digits (omega (arith, c.ranges.number)) c.loop-left.invariant c.loop-left-test.false
