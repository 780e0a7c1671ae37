use Rattle.std.proofs.Common.{◌≡◌, drop}
use Rattle.std.specs.List.{list_all}
use Rattle.dv_conservative.specs.Process.{is_event_of}
use Rattle.dv_proc.specs.Packets.{meant_events, meant_packet}
use Rattle.dv_proc.proofs.process.are_of_window.Given as goal

abbrev pub invariant-loop-event : goal.invariant-loop-event
invariant-loop-event g l =
    list_all (is_event_of (g.L.Local.view l.local).share (meant_packet l.packet)) (meant_events l.packet.events.items)
    ≡ list_all (is_event_of (g.L.Local.view l.local).share (meant_packet l.packet))
    (meant_events (drop l.event-index l.packet.events.items))
