use Rattle.dv_share.specs.Links.{delivery_of}
use Rattle.dv_share.proofs.Gathering.{gathered_missed}
use Rattle.dv_share.proofs.received.Received.deliver_far.Goals as goal

pub returns-in-None-clause-gathered : goal.returns-in-None-clause-gathered
returns-in-None-clause-gathered c ds h =
    gathered_missed c.args.members.now ds (delivery_of c.args.delivery) c.args.self.now.items
    (λ p m at number lt. c.in-None.ensures p m at number) h
