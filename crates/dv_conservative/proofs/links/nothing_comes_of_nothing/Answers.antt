use Rattle.dv_conservative.proofs.Bags.{nothing_arrives, nothing_leaves}
use Rattle.dv_conservative.proofs.links.nothing_comes_of_nothing.Goals as goal

pub returns-clause-arrives : goal.returns-clause-arrives
returns-clause-arrives c = nothing_arrives

pub returns-clause-leaves : goal.returns-clause-leaves
returns-clause-leaves c = nothing_leaves
