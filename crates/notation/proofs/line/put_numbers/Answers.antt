use Rattle.std.proofs.Common.{arith}
use Rattle.std.proofs.lemmas.List.{append_assoc}
use Rattle.notation.proofs.Spelling.{numbered_more}
use Rattle.notation.proofs.line.put_numbers.Goals as goal

pub loop-number-preserved : goal.loop-number-preserved
loop-number-preserved c = record {
  length = cc;
  place = omega arith;
  put = rw (numbered_more c.args.numbers.now c.loop-number.number-index c.loop-number-test.true, ← append_assoc) (grind arith);
}
