use Rattle.dv_devs.proofs.Stretches.{resting_components, resting_trace, rests_until_next, entry_at_least_next}
use Rattle.dv_devs.proofs.laws.runs.next_instant_is_the_least_next_time.Goals as goal

pub returns-clause-components : goal.returns-clause-components
returns-clause-components g c limit net inputs ready n m le next brings =
    resting_components limit net inputs ready n m le (rests_until_next limit net inputs ready n m next brings)

pub returns-clause-trace : goal.returns-clause-trace
returns-clause-trace g c limit net inputs ready leaves n m le next brings =
    resting_trace limit net inputs ready n leaves m le (rests_until_next limit net inputs ready n m next brings)

pub returns-clause-entry : goal.returns-clause-entry
returns-clause-entry g c = entry_at_least_next
