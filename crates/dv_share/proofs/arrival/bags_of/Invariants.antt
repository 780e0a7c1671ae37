use Rattle.std.proofs.Common.{◌≡◌, take}
use Rattle.dv_conservative.specs.Links.{inbox}
use Rattle.dv_share.specs.Links.{deliveries_of}
use Rattle.dv_share.proofs.arrival.bags_of.Given as goal

-- the bags of what came so far
abbrev pub invariant-loop-delivery : goal.invariant-loop-delivery
invariant-loop-delivery l = l.bags ≡ inbox l.component (deliveries_of (take l.delivery-index l.deliveries)) 0 l.ports
