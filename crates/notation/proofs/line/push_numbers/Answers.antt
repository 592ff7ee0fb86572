use Rattle.std.proofs.Common.{arith}
use Rattle.std.proofs.lemmas.List.{append_assoc}
use Rattle.notation.proofs.Spelling.{numbered_more}
use Rattle.notation.proofs.line.push_numbers.Goals as goal

pub loop-number-preserved : goal.loop-number-preserved
loop-number-preserved g c = record {
  put = rw (numbered_more c.args.numbers.now c.loop-number.number-index c.loop-number-test.true, ← append_assoc) (cc);
  room = omega arith;
}
