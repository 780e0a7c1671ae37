use Rattle.dv_tree.proofs.Received.{each_receives}
use Rattle.dv_tree.proofs.laws.each_component_receives.Goals as goal

pub returns : goal.returns
returns c = each_receives
