use Rattle.std.proofs.Common.{◌≡◌, ℕ, ◌^◌, ◌<◌, ◌≤◌, List, length, IfErr, Ok, Err, Result, sym, ap, ◌∙◌, subst, arith, rules}
use Rattle.std.proofs.lemmas.Result.{err_from_is_err_and}
use Rattle.syntax.specs.Census.{counted, census}
use Rattle.syntax.specs.Faults.{place_of}
use Rattle.syntax.specs.declared.census.Census.{Census}
use Rattle.syntax.specs.declared.fault.ReadFault.{ReadFault}
use Rattle.syntax.proofs.Counting.{Sofar, sofar_none, sofar_fault, sofar_end, sofar_more, sofar_room}
use Rattle.syntax.proofs.Within.{census_within}
use Rattle.syntax.proofs.Onward.{Onward, onward, onward_less, left_end, left_fault}
use Rattle.syntax.proofs.Stacks.{length-newest}
use Rattle.syntax.proofs.census.take_census.Goals as goal
use Rattle.syntax.proofs.census.take_census.Goals.{In-Some}

pub loop-lexeme-init : goal.loop-lexeme-init
loop-lexeme-init c = record {
  sofar = sofar_none c.args.text.now c.new-reader.result c.default-census.result c.new-reader.ensures.text c.new-reader.ensures.place c.new-reader.ensures.opens (search rules);
  at_depth = sym (ap length c.new-reader.ensures.opens);
}

-- both clauses, of a result that is the census
both : (text : List ℕ) (r : Result Census ReadFault) → r ≡ census text → record { value : r ≡ census text; within : IfErr r (λ f. place_of f ≤ length text) }
both text r e = record { value = e; within = by r e }
  where
    by : (x : Result Census ReadFault) → x ≡ census text → IfErr x (λ f. place_of f ≤ length text)
    by (Ok c) e = tt
    by (Err f) e = census_within text f (sym e)

pub returns-in_err-lexeme : goal.returns-in_err-lexeme
returns-in_err-lexeme c =
    let p = err_from_is_err_and c.from_residual.result c.from_residual.ensures.1 in
    let fault = left_fault c.loop-lexeme.reader c.next.new.self c.next.result _ c.next.ensures c.in_err-lexeme.was in
    both c.args.text.now _ (p.1 ∙ ap Err p.2 ∙ sofar_fault c.loop-lexeme.invariant.sofar _ fault)

pub returns : goal.returns
returns c =
    both c.args.text.now _
    (sofar_end c.loop-lexeme.invariant.sofar (left_end c.loop-lexeme.reader c.next.new.self c.next.result c.next.ensures (c.in_ok-lexeme.was ∙ ap Ok c.in_default.is)))

-- where the reader is after a lexeme
on : (c : In-Some) → Onward c.loop-lexeme.reader c.next.new.self c.in-Some.lexeme
on c = onward c.loop-lexeme.reader c.next.new.self c.next.result c.in-Some.lexeme c.next.ensures (c.in_ok-lexeme.was ∙ ap Ok c.in-Some.is)

pub count-requires : goal.count-requires
count-requires c =
    let o = on (goal.at.count-requires c).In-Some in
    let moved = o.place in
    let some = o.some in
    let within = o.within in
    let same = ap length c.loop-lexeme.invariant.sofar.same in
    let fits : length c.args.text.now < 2 ^ 64 = search rules in
    let shallow = c.loop-lexeme.reader.opens.within in
    let depth = c.loop-lexeme.invariant.at_depth ∙ length-newest c.loop-lexeme.reader.opens.places c.loop-lexeme.reader.opens.depth in
    record {
      room = sofar_room c.loop-lexeme.invariant.sofar (omega arith);
      shallow = omega arith;
    }

pub loop-lexeme-smaller : goal.loop-lexeme-smaller
loop-lexeme-smaller c = (onward_less c.args.text.now c.loop-lexeme.reader c.next.new.self c.in-Some.lexeme c.loop-lexeme.invariant.sofar.same (on (goal.at.loop-lexeme-smaller c).In-Some)).1

pub loop-lexeme-preserved : goal.loop-lexeme-preserved
loop-lexeme-preserved c = record {
  sofar =
      subst (Sofar c.args.text.now c.next.new.self) (sym (c.count.ensures ∙ ap (counted c.loop-lexeme.census c.in-Some.lexeme.kind) c.loop-lexeme.invariant.at_depth))
      (sofar_more c.loop-lexeme.invariant.sofar c.next.new.self c.in-Some.lexeme (on (goal.at.loop-lexeme-preserved c).In-Some));
  at_depth = c.depth-depth.ensures;
}
