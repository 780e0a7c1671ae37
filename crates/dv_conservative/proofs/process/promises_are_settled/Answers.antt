use Rattle.dv_conservative.proofs.Settled.{promise_later, promise_settled, promise_within}
use Rattle.dv_conservative.proofs.process.promises_are_settled.Goals as goal

pub returns-clause-settled : goal.returns-clause-settled
returns-clause-settled c fits s received k out u sound ours at far = promise_settled fits s received sound ours k at out u far

pub returns-clause-later : goal.returns-clause-later
returns-clause-later c fits s received k sound ours at = promise_later fits s received sound ours k at

pub returns-clause-within : goal.returns-clause-within
returns-clause-within c = promise_within
