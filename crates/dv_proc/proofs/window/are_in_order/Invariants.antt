use Rattle.std.proofs.Common.{◌≡◌, drop}
use Rattle.dv_conservative.specs.Process.{are_in_order, are_in_order_after}
use Rattle.dv_proc.specs.Packets.{meant_event, meant_events}
use Rattle.dv_proc.proofs.window.are_in_order.Given as goal

-- what is left decides
abbrev pub invariant-loop-event : goal.invariant-loop-event
invariant-loop-event l =
    are_in_order (meant_events l.fn.events) ≡ are_in_order_after (meant_event l.last) (meant_events (drop l.event-index l.others))
