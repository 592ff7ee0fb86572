use Rattle.tree.proofs.Editing.{whole_paths}
use Rattle.tree.proofs.laws.whole_paths_lead.Goals as goal

pub returns : goal.returns
returns c = whole_paths
