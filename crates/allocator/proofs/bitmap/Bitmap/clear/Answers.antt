use Rattle.std.proofs.Common.{sym, ◌∙◌}
use Rattle.allocator.proofs.Packed.{word_below, clear_one}
use Rattle.allocator.proofs.Searching.{set_within}
use Rattle.allocator.proofs.bitmap.Bitmap.clear.Goals as goal

pub bounds-self-inside-n : goal.bounds-self-inside-n
bounds-self-inside-n c = word_below _ _ _ _ c.self.view_is c.self.told c.self.invariant (set_within _ _ (sym c.get.ensures ∙ c.if-not-get.false))

pub bounds-self-inside-n-2 : goal.bounds-self-inside-n-2
bounds-self-inside-n-2 c = word_below _ _ _ _ c.self.view_is c.self.told c.self.invariant (set_within _ _ (sym c.get.ensures ∙ c.if-not-get.false))

pub returns : goal.returns
returns c =
    let was = sym c.get.ensures ∙ c.if-not-get.false in
    (was, clear_one _ _ _ _ c.self.view_is c.self.told c.self.invariant (set_within _ _ was))
