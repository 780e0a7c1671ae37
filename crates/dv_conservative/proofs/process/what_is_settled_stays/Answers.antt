use Rattle.dv_conservative.proofs.Staying.{sent_still, settled_still}
use Rattle.dv_conservative.proofs.process.what_is_settled_stays.Goals as goal

pub returns-clause-sent : goal.returns-clause-sent
returns-clause-sent c s received p out u n fine may settled lt last = sent_still s received p fine may out u settled n lt last

pub returns-clause-settled : goal.returns-clause-settled
returns-clause-settled c s received p out u fine may settled = settled_still s received p fine may out u settled
