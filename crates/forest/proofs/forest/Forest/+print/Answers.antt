use Rattle.std.proofs.Common.{◌≡◌, ℕ, ◌+◌, ◌<◌, ◌≤◌, [], ◌∷◌, ◌++◌, length, take, Some, None, sym, ap, ◌∙◌, subst, arith}
use Rattle.tree.specs.Trees.{Tree, printed, width}
use Rattle.std.proofs.lemmas.List.{length-append}
use Rattle.forest.specs.Unfolding.{link_at, token_at, Unfolds, chain_width}
use Rattle.forest.proofs.Printing.{Put, put_put, Printing, TokenThere, FormThere, form_length, piece_put, ends, token_there, form_there, empty_there, room_left, got, empty_inside, width_told}
use Rattle.forest.specs.declared.cells.Head.TheVariants as H
use Rattle.forest.proofs.forest.Forest.+print.Goals as goal
use Rattle.forest.proofs.forest.Forest.+print.Goals.{In-Some-get}

-- the link at hand, and what is printed up to it
abbrev link_is : (t : ℕ) (c : In-Some-get t) → c.in-Some-get.link ≡ (link_at c.args.self.now c.in-Some.n).cell
link_is t c = got (link_at c.args.self.now c.in-Some.n) c.in-Some-get.link c.in-Some-get.ensures

abbrev printing : (t : ℕ) (c : In-Some-get t) → Printing c.args.self.now c.args.first (Some c.in-Some.n) c.args.at c.loop-next.place c.args.buffer.now c.loop-next.buffer
printing t c = subst (λ o. Printing c.args.self.now c.args.first o c.args.at c.loop-next.place c.args.buffer.now c.loop-next.buffer) c.in-Some.is c.loop-next.invariant

room_for : (t : ℕ) (c : In-Some-get t) → c.loop-next.place + width (printing t c).rest ≤ length c.loop-next.buffer
room_for t c = room_left c.args.self.now c.args.first (Some c.in-Some.n) c.args.at c.loop-next.place c.args.buffer.now c.loop-next.buffer (printing t c)

-- what stands at the link, and behind it
abbrev token_part : (t : ℕ) (c : In-Some-get t) (m : ℕ) → c.in-Some-get.link.head ≡ H.Token m → TokenThere c.args.self.now c.in-Some.n m (printing t c).rest
token_part t c m is = token_there c.args.self.now c.in-Some.n m (printing t c).rest (printing t c).of_next (sym (ap (λ l. l.head) (link_is t c)) ∙ is)

abbrev form_part : (t : ℕ) (c : In-Some-get t) (m : ℕ) → c.in-Some-get.link.head ≡ H.Form m → FormThere c.args.self.now c.in-Some.n (Some m) (printing t c).rest
form_part t c m is = form_there c.args.self.now c.in-Some.n m (printing t c).rest (printing t c).of_next (sym (ap (λ l. l.head) (link_is t c)) ∙ is)

abbrev empty_part : (t : ℕ) (c : In-Some-get t) → c.in-Some-get.link.head ≡ H.EmptyForm → FormThere c.args.self.now c.in-Some.n None (printing t c).rest
empty_part t c is = empty_there c.args.self.now c.in-Some.n (printing t c).rest (printing t c).of_next (sym (ap (λ l. l.head) (link_is t c)) ∙ is)

behind_it : (t : ℕ) (c : In-Some-get t) (rest : Tree) → Unfolds c.args.self.now (link_at c.args.self.now c.in-Some.n).cell.tail rest → Unfolds c.args.self.now c.in-Some-get.link.tail rest
behind_it t c rest u = subst (λ o. Unfolds c.args.self.now o rest) (sym (ap (λ l. l.tail) (link_is t c))) u

pub loop-next-preserved-in-Some-get-2 : goal.loop-next-preserved-in-Some-get-2
loop-next-preserved-in-Some-get-2 t c =
    let k = (goal.at.loop-next-preserved-in-Some-get-2 t c).In-Some-get in
    let p = printing t k in
    let there = token_part t k c.in-Token.token c.in-Token.is in
    let cell = got (token_at c.args.self.now c.in-Token.token) c.in-Some-get-2.cell c.in-Some-get-2.ensures in
    let put = c.print_token-place.ensures in
    let bytes = ap (λ x. take x.length x.bytes) cell ∙ there.spells.3 in
    let done : Put c.loop-next.place c.loop-next.buffer c.print_token-place.result c.print_token-place.new.buffer there.bytes =
    (omega (arith, put.place, ap (λ x. x.length) cell, there.spells.4), put.put ∙ ap (λ xs. take c.loop-next.place c.loop-next.buffer ++ xs) bytes, put.rest, put.length) in
    piece_put c.args.self.now c.args.first (Some c.in-Some.n) c.in-Some-get.link.tail c.args.at c.loop-next.place c.print_token-place.result c.args.buffer.now c.loop-next.buffer c.print_token-place.new.buffer there.bytes there.behind p done
    (behind_it t k there.behind there.of_tail) there.prints

pub print-place-requires : goal.print-place-requires
print-place-requires t c =
    let k = (goal.at.print-place-requires t c).In-Some-get in
    let p = printing t k in
    let room = room_for t k in
    let there = form_part t k c.in-Form.inner c.in-Form.is in
    let size = form_length c.args.self.now c.in-Some.n _ p.rest there in
    let opened = c.put_bytes-place.ensures in
    let fits : c.put_bytes-place.result + width there.inner ≤ length c.put_bytes-place.new.line = omega (arith, room, size, opened.place, opened.length) in
    let less : chain_width c.args.self.now (Some c.in-Form.inner) < chain_width c.args.self.now c.args.first =
    omega (arith, width_told c.args.self.now (Some c.in-Form.inner) there.inner there.of_inner, width_told c.args.self.now c.args.first p.whole p.of_first, ap length p.split ∙ length-append p.done (printed p.rest), size) in
    (omega (arith, less, c.decreases), (there.inner, there.of_inner, fits))

pub loop-next-preserved-in-Form : goal.loop-next-preserved-in-Form
loop-next-preserved-in-Form t c =
    let k = (goal.at.loop-next-preserved-in-Form t c).In-Some-get in
    let p = printing t k in
    let there = form_part t k c.in-Form.inner c.in-Form.is in
    let size = form_length c.args.self.now c.in-Some.n _ p.rest there in
    let opened = c.put_bytes-place.ensures in
    let put = c.print-place.ensures there.inner there.of_inner in
    let close = c.put_bytes-place-in-Form.ensures in
    let inner = put_put _ _ _ _ _ _ (40 ∷ []) (printed there.inner) (opened.place, opened.put, opened.rest, opened.length) put in
    let done = put_put _ _ _ _ _ _ (40 ∷ printed there.inner) (41 ∷ []) inner (close.place, close.put, close.rest, close.length) in
    piece_put c.args.self.now c.args.first (Some c.in-Some.n) c.in-Some-get.link.tail c.args.at c.loop-next.place c.put_bytes-place-in-Form.result c.args.buffer.now c.loop-next.buffer c.put_bytes-place-in-Form.new.line (40 ∷ (printed there.inner ++ (41 ∷ []))) there.behind p done
    (behind_it t k there.behind there.of_tail) there.prints

pub loop-next-preserved : goal.loop-next-preserved
loop-next-preserved t c =
    let k = (goal.at.loop-next-preserved t c).In-Some-get in
    let p = printing t k in
    let there = empty_part t k c.in-EmptyForm.is in
    let nothing = empty_inside c.args.self.now there.inner there.of_inner in
    let prints : printed p.rest ≡ (40 ∷ 41 ∷ []) ++ printed there.behind = there.prints ∙ ap (λ bs. (40 ∷ (bs ++ (41 ∷ []))) ++ printed there.behind) nothing in
    let put = c.put_bytes-place-in-EmptyForm.ensures in
    piece_put c.args.self.now c.args.first (Some c.in-Some.n) c.in-Some-get.link.tail c.args.at c.loop-next.place c.put_bytes-place-in-EmptyForm.result c.args.buffer.now c.loop-next.buffer c.put_bytes-place-in-EmptyForm.new.line (40 ∷ 41 ∷ []) there.behind p (put.place, put.put, put.rest, put.length)
    (behind_it t k there.behind there.of_tail) prints

pub returns : goal.returns
returns t c =
    ends c.args.self.now c.args.first c.args.at c.loop-next.place c.args.buffer.now c.loop-next.buffer
    (subst (λ o. Printing c.args.self.now c.args.first o c.args.at c.loop-next.place c.args.buffer.now c.loop-next.buffer) c.in_default.is c.loop-next.invariant)
