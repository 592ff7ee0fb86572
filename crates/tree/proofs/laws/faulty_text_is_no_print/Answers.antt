use Rattle.tree.proofs.Rereading.{no_print}
use Rattle.tree.proofs.laws.faulty_text_is_no_print.Goals as goal

pub returns : goal.returns
returns c = no_print
