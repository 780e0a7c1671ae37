-- What the events and packets of the code stand for.
use Rattle.std.specs.Prelude.{List, map}
use Rattle.dv_conservative.specs.Events.{Event}
use Rattle.dv_conservative.specs.Process.{Packet}
use Rattle.dv_proc.specs.declared.packet.Event.{Event as EventOfCode}
use Rattle.dv_proc.specs.declared.packet.Packet.{Packet as PacketOfCode}

-- the event that is meant
abbrev pub meant_event : EventOfCode → Event
meant_event e = record { time = e.time; component = e.component; port = e.port; value = e.value; copies = e.copies }

abbrev pub meant_events : List EventOfCode → List Event
meant_events es = map meant_event es

-- the packet that is meant
abbrev pub meant_packet : PacketOfCode → Packet
meant_packet p = record { link = p.link; from = p.from; upto = p.upto; events = meant_events p.events.items }

abbrev pub meant_packets : List PacketOfCode → List Packet
meant_packets ps = map meant_packet ps
