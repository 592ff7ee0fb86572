use Rattle.std.proofs.Common.{Ok, Err, ap, ◌∙◌, arith}
use Rattle.std.proofs.lemmas.Result.{err_from_is_err_and}
use Rattle.syntax.specs.Readers.{text_of}
use Rattle.syntax.proofs.Onward.{Onward, onward, onward_less, left_end, end_stays, left_fault}
use Rattle.inspect.proofs.Closing.{going_start, going_more, going_end, going_fault, refused_end}
use Rattle.inspect.proofs.outline.form_end.Goals as goal
use Rattle.inspect.proofs.outline.form_end.Goals.{In-Some}

pub loop-reader-init : goal.loop-reader-init
loop-reader-init c = going_start c.args.reader c.depth-inside.result c.depth-inside.ensures

pub returns-in_err-_lexeme : goal.returns-in_err-_lexeme
returns-in_err-_lexeme c =
    let p = err_from_is_err_and c.from_residual.result c.from_residual.ensures.1 in
    let f = c.in_err-_lexeme.field-0.0 in
    let fault = going_fault c.args.reader c.loop-reader.reader c.depth-inside.result f c.loop-reader.invariant (left_fault c.loop-reader.reader c.next.new.self c.next.result f c.next.ensures c.in_err-_lexeme.was) in
    refused_end c.args.reader c.from_residual.result f (p.1 ∙ ap Err p.2) fault

-- where the reader is after a lexeme
on : (c : In-Some) → Onward c.loop-reader.reader c.next.new.self c.in-Some._lexeme
on c = onward c.loop-reader.reader c.next.new.self c.next.result c.in-Some._lexeme c.next.ensures (c.in_ok-_lexeme.was ∙ ap Ok c.in-Some.is)

pub loop-reader-smaller : goal.loop-reader-smaller
loop-reader-smaller c = (onward_less (text_of c.args.reader) c.loop-reader.reader c.next.new.self c.in-Some._lexeme c.loop-reader.invariant.same (on c)).1

pub loop-reader-preserved : goal.loop-reader-preserved
loop-reader-preserved c =
    going_more c.args.reader c.loop-reader.reader c.next.new.self c.depth-inside.result c.in-Some._lexeme c.loop-reader.invariant
    (omega (arith, c.depth.ensures, c.loop-reader-test.true)) (on c)

pub returns-in_default : goal.returns-in_default
returns-in_default c =
    let none = c.in_ok-_lexeme.was ∙ ap Ok c.in_default.is in
    let stays = c.place.ensures ∙ end_stays c.loop-reader.reader c.next.new.self c.next.result c.next.ensures none in
    let end = left_end c.loop-reader.reader c.next.new.self c.next.result c.next.ensures none in
    let back = c.loop-reader.invariant.after in
    record {
      end = λ ps h. stays ∙ going_end c.args.reader c.loop-reader.reader c.depth-inside.result c.loop-reader.invariant end ps h;
      within = omega arith;
    }
