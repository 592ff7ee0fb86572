use Rattle.std.proofs.Common.{◌≡◌, ◌+◌, ◌*◌, ◌^◌, ◌<◌, slice_index, drop, max, sym, ap, ◌∙◌, subst, arith, rules}
use Rattle.std.specs.Option.{option_or}
use Rattle.std.proofs.lemmas.Bool.{ltb-true, ltb-false, ne_eqb, false≢true}
use Rattle.allocator.specs.Allocations.{first_clear}
use Rattle.allocator.specs.Bitmaps.{bits}
use Rattle.allocator.proofs.Packed.{full_word, in_word_or_behind}
use Rattle.allocator.proofs.bitmap.Bitmap.first_clear_in.Goals as goal
use Rattle.allocator.proofs.bitmap.Bitmap.first_clear_in.Goals.{then-n-word, else-n-word}

pub returns-then-self-word : goal.returns-then-self-word
returns-then-self-word c =
    let low = max c.args.from (c.args.word * 64) in
    let behind = c.args.word * 64 + 64 in
    subst (λ bs. first_clear (drop low bs) low ≡ first_clear (drop behind bs) behind) c.self.view_is (full_word c.self.inside.words c.self.inside.capacity c.args.word low c.if-self-word.true (omega arith) (omega (arith, c.requires.behind)))

pub returns : goal.returns
returns c =
    let ws = c.self.inside.words in
    let cap = c.self.inside.capacity in
    let word = c.args.word in
    let behind = word * 64 + 64 in
    let fits : slice_index ws word < 2 ^ 64 = search rules in
    let begins : c.max-low.result ≡ max c.args.from (word * 64) = omega arith in
    let searched = in_word_or_behind ws cap word c.max-low.result c.trailing_ones-ones.result c.requires.within fits (omega arith) c.trailing_ones-ones.ensures c.if-n-word.then_some in
    let found = searched
    (λ e. elim c.if-n-word.branch [
      | then-n-word w ↦ (w.if-n-word.true, ltb-true _ _ (sym w.then_some-is ∙ e))
      | else-n-word w ↦ absurd (false≢true (sym (ne_eqb _ _ w.if-n-word.false) ∙ sym w.then_some-is ∙ e))
    ])
    (λ e inside. elim c.if-n-word.branch [
      | then-n-word w ↦ ltb-false _ _ (sym w.then_some-is ∙ e)
      | else-n-word w ↦ absurd (w.if-n-word.false inside)
    ]) in
    subst (λ m. first_clear (drop m c.args.self.now) m ≡ option_or c.then_some.result (first_clear (drop behind c.args.self.now) behind)) begins
    (subst (λ bs. first_clear (drop c.max-low.result bs) c.max-low.result ≡ option_or c.then_some.result (first_clear (drop behind bs) behind)) c.self.view_is
    (found ∙ ap (λ o. option_or o (first_clear (drop behind (bits ws cap)) behind)) (sym c.then_some.ensures)))
