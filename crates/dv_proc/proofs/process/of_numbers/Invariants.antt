use Rattle.std.proofs.Common.{◌≡◌, drop, take}
use Rattle.dv_conservative.specs.Sound.{AllNumbers}
use Rattle.dv_proc.specs.Packets.{meant_events, meant_packet}
use Rattle.dv_proc.proofs.process.of_numbers.Given as goal

abbrev pub invariant-loop-event : goal.invariant-loop-event
invariant-loop-event l = AllNumbers (meant_events (take l.event-index l.fn.events))
