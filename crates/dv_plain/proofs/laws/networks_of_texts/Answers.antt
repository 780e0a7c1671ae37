use Rattle.dv_plain.proofs.Ready.{ready}
use Rattle.dv_plain.proofs.Silence.{nothing_arrives, nothing_leaves}
use Rattle.dv_plain.proofs.laws.networks_of_texts.Goals as goal

pub returns-clause-ready : goal.returns-clause-ready
returns-clause-ready c = ready

pub returns-clause-inputs : goal.returns-clause-inputs
returns-clause-inputs c = nothing_arrives c.nothing_comes_of_nothing.ensures.arrives

pub returns-clause-outputs : goal.returns-clause-outputs
returns-clause-outputs c = nothing_leaves c.nothing_comes_of_nothing.ensures.leaves
