use Rattle.dv_devs.proofs.Runs.{components_agree, emissions_agree, traces_agree}
use Rattle.dv_devs.proofs.laws.runs.inputs_come_before.Goals as goal

pub returns-clause-components : goal.returns-clause-components
returns-clause-components g c = components_agree

pub returns-clause-emissions : goal.returns-clause-emissions
returns-clause-emissions g c = emissions_agree

pub returns-clause-trace : goal.returns-clause-trace
returns-clause-trace g c = traces_agree
