use Rattle.std.proofs.Common.{arith}
use Rattle.dv_share.specs.Links.{delivery_of}
use Rattle.dv_share.proofs.Touched.{gathered_none}
use Rattle.dv_share.proofs.received.Received.deliver.Goals as goal

pub returns-then-delivery-eq0-clause-gathered : goal.returns-then-delivery-eq0-clause-gathered
returns-then-delivery-eq0-clause-gathered c ds h =
    gathered_none c.args.members.now ds (delivery_of c.args.delivery.now) c.args.self.now.items (omega arith) h
