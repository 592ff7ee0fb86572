use Rattle.tree.proofs.Editing.{editing}
use Rattle.tree.proofs.laws.editing_bytes_is_editing_the_tree.Goals as goal

pub returns : goal.returns
returns c = editing
