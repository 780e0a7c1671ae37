use Rattle.std.proofs.Common.{subst}
use Rattle.dv_react.specs.Components.{IsWaitOfRun}
use Rattle.dv_plain.proofs.run.sooner.Goals as goal

pub returns-in-Until-clause-of_run : goal.returns-in-Until-clause-of_run
returns-in-Until-clause-of_run c = λ limit next wait. c.earlier.ensures.of_run limit next (subst (IsWaitOfRun limit) c.in-Until.is wait)
