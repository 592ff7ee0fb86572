use Rattle.std.proofs.Common.{◌≡◌, ◌+◌, ◌*◌, ◌/◌, max, length, drop, sym, ap, ◌∙◌, arith}
use Rattle.allocator.specs.Allocations.{first_clear}
use Rattle.allocator.proofs.Packed.{length_bits}
use Rattle.allocator.proofs.Searching.{first_clear_here, first_clear_end}
use Rattle.allocator.proofs.bitmap.Bitmap.first_clear.Goals as goal

pub returns-then-not-get : goal.returns-then-not-get
returns-then-not-get c =
    sym (first_clear_here c.args.self.now c.args.from (omega (arith, c.if-from-self.true, length_bits c.self.inside.words c.self.inside.capacity, ap length c.self.view_is)) (sym c.get.ensures ∙ c.if-not-get.true))

pub loop-word-init : goal.loop-word-init
loop-word-init c =
    let e : max c.args.from (c.args.from / 64 * 64) ≡ c.args.from = omega arith in
    ap (λ n. first_clear (drop n c.args.self.now) n) e

pub loop-word-preserved : goal.loop-word-preserved
loop-word-preserved c =
    let behind = c.loop-word.word * 64 + 64 in
    let e : max c.args.from ((c.loop-word.word + 1) * 64) ≡ behind = omega (arith, c.loop-word.auto.word) in
    ap (λ n. first_clear (drop n c.args.self.now) n) e ∙ sym (c.in_default.ensures) ∙ c.loop-word.invariant

pub returns : goal.returns
returns c =
    sym (first_clear_end c.args.self.now _ (omega (arith, c.loop-word-test.false, c.div_ceil-word-end.ensures, length_bits c.self.inside.words c.self.inside.capacity, ap length c.self.view_is))) ∙ c.loop-word.invariant
