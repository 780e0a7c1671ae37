use Rattle.law_sound.proofs.Flattened.{all_lead, arrives_same, leaves_same, numbered}
use Rattle.law_sound.proofs.texts.flat_models_route_by_links.Goals as goal

pub returns-clause-arrives : goal.returns-clause-arrives
returns-clause-arrives c = arrives_same

pub returns-clause-leaves : goal.returns-clause-leaves
returns-clause-leaves c = leaves_same

pub returns-clause-numbered : goal.returns-clause-numbered
returns-clause-numbered c = numbered

pub returns-clause-lead : goal.returns-clause-lead
returns-clause-lead c = all_lead
