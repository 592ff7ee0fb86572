use Rattle.std.proofs.Common.{◌≡◌, ◌-◌, ◌<◌, ◌≤◌, ◌++◌, length, take, drop, Ok, Err, string_bytes, sym, ap, ◌∙◌, subst, arith}
use Rattle.std.proofs.lemmas.Result.{err_from_is_err_and}
use Rattle.syntax.specs.Readers.{place_of}
use Rattle.inspect.specs.Outlines.{line_by, Outlines}
use Rattle.syntax.proofs.Onward.{Onward, onward, onward_less, left_end, left_fault}
use Rattle.inspect.proofs.Listing.{listing_start, listing_more, listing_end, listing_fault, fault_before, told_weaker}
use Rattle.inspect.proofs.outline.outline.Goals as goal
use Rattle.inspect.proofs.outline.outline.Goals.{In-Some}

pub loop-out-init : goal.loop-out-init
loop-out-init c =
    listing_start c.args.text.now c.new-reader.result (string_bytes c.new-out.result) c.new-reader.ensures.text c.new-reader.ensures.place c.new-reader.ensures.opens c.new-out.ensures.bytes

pub returns-in_err-lexeme : goal.returns-in_err-lexeme
returns-in_err-lexeme c =
    let p = err_from_is_err_and c.from_residual.result c.from_residual.ensures.1 in
    let f = c.in_err-lexeme.field-0.0 in
    subst (Outlines c.args.text.now) (sym (p.1 ∙ ap Err p.2))
    (listing_fault c.args.text.now c.loop-out.reader (string_bytes c.loop-out.out) f c.loop-out.invariant (left_fault c.loop-out.reader c.next.new.self c.next.result f c.next.ensures c.in_err-lexeme.was))

pub returns-in_default : goal.returns-in_default
returns-in_default c =
    listing_end c.args.text.now c.loop-out.reader (string_bytes c.loop-out.out) c.loop-out.invariant
    (left_end c.loop-out.reader c.next.new.self c.next.result c.next.ensures (c.in_ok-lexeme.was ∙ ap Ok c.in_default.is))

-- where the reader is after a lexeme
on : (c : In-Some) → Onward c.loop-out.reader c.next.new.self c.in-Some.lexeme
on c = onward c.loop-out.reader c.next.new.self c.next.result c.in-Some.lexeme c.next.ensures (c.in_ok-lexeme.was ∙ ap Ok c.in-Some.is)

less : (c : In-Some) → (place_of c.next.new.self ≤ length c.args.text.now) × (length c.args.text.now - place_of c.next.new.self < length c.args.text.now - place_of c.loop-out.reader)
less c = onward_less c.args.text.now c.loop-out.reader c.next.new.self c.in-Some.lexeme c.loop-out.invariant.same (on c)

pub slice_bounds-bytes-end : goal.slice_bounds-bytes-end
slice_bounds-bytes-end c = let within = (less (goal.at.slice_bounds-bytes-end c).In-Some).0 in omega (arith, c.place.ensures)

pub loop-out-smaller : goal.loop-out-smaller
loop-out-smaller c = (less (goal.at.loop-out-smaller c).In-Some).1

pub loop-out-preserved : goal.loop-out-preserved
loop-out-preserved c =
    let o = on (goal.at.loop-out-preserved c).In-Some in
    let r = c.loop-out.reader in
    let text = c.args.text.now in
    let from = c.place-place.result in
    let moved = o.place in
    let size : c.place.result - from ≡ c.in-Some.lexeme.len = omega (arith, c.place.ensures, c.place-place.ensures) in
    listing_more text r c.next.new.self (string_bytes c.loop-out.out) (string_bytes c.push_item.new.out) (take (c.place.result - from) (drop from text)) c.in-Some.lexeme c.loop-out.invariant o
    ((λ j. take (size j) (drop (c.place-place.ensures j) (sym c.loop-out.invariant.same j))) ∙ sym o.bytes_are)
    (λ qs h.
    c.in_ok-push_item.ensures qs h
    ∙ (λ j. string_bytes c.loop-out.out ++ line_by c.in-Some.lexeme.kind (c.depth-depth.ensures j) (c.place-place.ensures j) (take (c.place.result - from) (drop from text)) qs))

pub returns-in_err-push_item : goal.returns-in_err-push_item
returns-in_err-push_item c =
    let p = err_from_is_err_and c.from_residual-in_err-push_item.result c.from_residual-in_err-push_item.ensures.1 in
    let o = on (goal.at.returns-in_err-push_item c).In-Some in
    subst (Outlines c.args.text.now) (sym (p.1 ∙ ap Err p.2))
    (told_weaker c.in_err-push_item.field-0.0 _ _
    (λ f h. listing_fault c.args.text.now c.loop-out.reader (string_bytes c.loop-out.out) f c.loop-out.invariant (fault_before c.loop-out.reader c.next.new.self c.in-Some.lexeme f o h))
    c.in_err-push_item.ensures)
