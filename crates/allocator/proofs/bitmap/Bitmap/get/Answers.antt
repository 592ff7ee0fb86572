use Rattle.std.specs.Prelude.{◌==◌}
use Rattle.std.proofs.Common.{get_or, false, sym, ap, ◌∙◌}
use Rattle.std.proofs.lemmas.Nat.Bits.{shr_and_one}
use Rattle.std.proofs.lemmas.Bool.{le-ltb}
use Rattle.allocator.proofs.Packed.{get_d_bits, bit_past}
use Rattle.allocator.proofs.bitmap.Bitmap.get.Goals as goal

pub returns-then-n-self : goal.returns-then-n-self
returns-then-n-self c =
    ap (λ x. x == 1) (shr_and_one _ _) ∙ sym (get_d_bits c.self.inside.words c.self.inside.capacity c.args.n c.if-n-self.true) ∙ ap (λ bs. get_or bs c.args.n false) c.self.view_is

pub returns-else-n-self : goal.returns-else-n-self
returns-else-n-self c =
    le-ltb c.args.n c.self.inside.capacity c.if-n-self.false
    ∙ sym (bit_past c.self.inside.words c.self.inside.capacity c.args.n c.if-n-self.false)
    ∙ ap (λ bs. get_or bs c.args.n false) c.self.view_is
