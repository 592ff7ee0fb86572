use Rattle.tree.proofs.Seams.{well_formed_edit}
use Rattle.tree.proofs.laws.edited_tree_is_well_formed_where_the_edit_is_sound.Goals as goal

pub returns : goal.returns
returns c = well_formed_edit
