use Rattle.dv_conservative.proofs.Bags.{adds_copies, adds_elsewhere}
use Rattle.dv_conservative.proofs.links.a_link_adds_its_copies.Goals as goal

pub returns-clause-here : goal.returns-clause-here
returns-clause-here c = adds_copies

pub returns-clause-elsewhere : goal.returns-clause-elsewhere
returns-clause-elsewhere c = adds_elsewhere
