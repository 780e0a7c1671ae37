use Rattle.dv_bag.proofs.InputWalks.{between}
use Rattle.dv_bag.proofs.inputs.laws.nothing_comes_in_between.Goals as goal

pub returns : goal.returns
returns c = between
