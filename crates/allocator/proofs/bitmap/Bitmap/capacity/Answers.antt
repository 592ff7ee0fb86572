use Rattle.std.proofs.Common.{length, sym, ap, ◌∙◌}
use Rattle.allocator.proofs.Packed.{length_bits}
use Rattle.allocator.proofs.bitmap.Bitmap.capacity.Goals as goal

pub returns-clause-value : goal.returns-clause-value
returns-clause-value c = sym (length_bits c.self.inside.words c.self.inside.capacity) ∙ ap length c.self.view_is
