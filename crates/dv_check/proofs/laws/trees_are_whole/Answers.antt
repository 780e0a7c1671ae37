use Rattle.dv_check.proofs.WholeTrees.{tree_whole}
use Rattle.dv_check.proofs.laws.trees_are_whole.Goals as goal

pub returns : goal.returns
returns c = tree_whole
