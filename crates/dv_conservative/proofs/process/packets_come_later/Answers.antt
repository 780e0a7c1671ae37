use Rattle.dv_conservative.proofs.Later.{components_stay, part_stays, sent_stays}
use Rattle.dv_conservative.proofs.process.packets_come_later.Goals as goal

pub returns-clause-components : goal.returns-clause-components
returns-clause-components c = components_stay

pub returns-clause-part : goal.returns-clause-part
returns-clause-part c = part_stays

pub returns-clause-sent : goal.returns-clause-sent
returns-clause-sent c = sent_stays
