use Rattle.std.proofs.Common.{◌≡◌, ◌++◌, drop, map}
use Rattle.dv_conservative.specs.Events.{event_of}
use Rattle.dv_proc.specs.Packets.{meant_events}
use Rattle.dv_share.specs.Links.{deliveries_of}
use Rattle.dv_local.proofs.events.add_events.Given as goal

-- what was added, with what is left to add
abbrev pub invariant-loop-delivery : goal.invariant-loop-delivery
invariant-loop-delivery l =
    meant_events l.into.items ++ map (event_of l.now) (deliveries_of (drop l.delivery-index l.deliveries))
    ≡ meant_events l.fn.into.items ++ map (event_of l.now) (deliveries_of l.deliveries)
