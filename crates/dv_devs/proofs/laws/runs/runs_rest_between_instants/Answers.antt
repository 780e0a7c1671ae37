use Rattle.dv_devs.proofs.Stretches.{resting_components, resting_trace}
use Rattle.dv_devs.proofs.laws.runs.runs_rest_between_instants.Goals as goal

pub returns-clause-components : goal.returns-clause-components
returns-clause-components g c = resting_components

pub returns-clause-trace : goal.returns-clause-trace
returns-clause-trace g c limit net inputs ready leaves n = resting_trace limit net inputs ready n leaves
