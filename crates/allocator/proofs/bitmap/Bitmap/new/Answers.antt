use Rattle.std.proofs.Common.{false, replicate, ap, ◌∙◌}
use Rattle.allocator.proofs.Packed.{bits_none}
use Rattle.allocator.proofs.bitmap.Bitmap.new.Goals as goal

pub returns : goal.returns
returns c = bits_none c.min.result ∙ ap (λ n. replicate n false) c.min.ensures
