use Rattle.dv_conservative.proofs.Told.{told}
use Rattle.dv_conservative.proofs.events.events_in_order_are_what_they_deliver.Goals as goal

pub returns : goal.returns
returns c = told
