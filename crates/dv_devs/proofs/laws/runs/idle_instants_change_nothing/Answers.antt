use Rattle.dv_devs.proofs.Idle.{idle_components, idle_entries, idle_outside, none_send}
use Rattle.dv_devs.proofs.laws.runs.idle_instants_change_nothing.Goals as goal

pub returns-clause-components : goal.returns-clause-components
returns-clause-components g c = idle_components

pub returns-clause-entries : goal.returns-clause-entries
returns-clause-entries g c = idle_entries

pub returns-clause-outside : goal.returns-clause-outside
returns-clause-outside g c = idle_outside

pub returns-clause-emissions : goal.returns-clause-emissions
returns-clause-emissions g c net now cs none matched = none_send net.behaviours now cs matched none
