use Rattle.allocator.proofs.Packed.{word_below, set_one}
use Rattle.allocator.proofs.bitmap.Bitmap.set.Goals as goal

pub bounds-self-inside-n : goal.bounds-self-inside-n
bounds-self-inside-n c = word_below _ _ _ _ c.self.view_is c.self.told c.self.invariant c.requires

pub bounds-self-inside-n-2 : goal.bounds-self-inside-n-2
bounds-self-inside-n-2 c = word_below _ _ _ _ c.self.view_is c.self.told c.self.invariant c.requires

pub returns : goal.returns
returns c = set_one _ _ _ _ c.self.view_is c.self.told c.self.invariant c.requires
