use Rattle.tree.proofs.Seams.{at_a_seam}
use Rattle.tree.proofs.laws.neighbours_run_together_at_a_seam.Goals as goal

pub returns : goal.returns
returns c = at_a_seam
