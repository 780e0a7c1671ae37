use Rattle.dv_conservative.proofs.Silence.{decided_at, foreseen_later, sends_nothing_at}
use Rattle.dv_conservative.proofs.promise.what_is_foreseen_is_decided.Goals as goal

pub returns-clause-silent : goal.returns-clause-silent
returns-clause-silent g c = sends_nothing_at

pub returns-clause-decided : goal.returns-clause-decided
returns-clause-decided g c = decided_at

pub returns-clause-later : goal.returns-clause-later
returns-clause-later g c = foreseen_later
