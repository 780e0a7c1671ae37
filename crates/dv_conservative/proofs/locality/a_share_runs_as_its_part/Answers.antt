use Rattle.dv_conservative.proofs.Kept.{part_of_share}
use Rattle.dv_conservative.proofs.Local.{components_of_share, emissions_of_share, sends_of_share}
use Rattle.dv_conservative.proofs.locality.a_share_runs_as_its_part.Goals as goal

pub returns-clause-components : goal.returns-clause-components
returns-clause-components c = components_of_share

pub returns-clause-emissions : goal.returns-clause-emissions
returns-clause-emissions c = emissions_of_share

pub returns-clause-sends : goal.returns-clause-sends
returns-clause-sends c limit f outside who to deliveries n = sends_of_share limit f outside who deliveries to n

pub returns-clause-part : goal.returns-clause-part
returns-clause-part c = part_of_share
