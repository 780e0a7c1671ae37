use Rattle.dv_tree.proofs.Quiet.{arrives_nothing, leaves_nothing}
use Rattle.dv_tree.proofs.laws.nothing_comes_of_nothing.Goals as goal

pub returns : goal.returns
returns c = record { arrives = arrives_nothing; leaves = leaves_nothing }
