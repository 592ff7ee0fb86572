use Rattle.tree.proofs.Editing.{item_at_place}
use Rattle.tree.proofs.laws.item_stands_at_its_place.Goals as goal

pub returns : goal.returns
returns c = item_at_place
