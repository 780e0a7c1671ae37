-- The ends of links that a process has, and the packets that went through them.
use Rattle.std.specs.Prelude.{◌≡◌, List, [], ◌∷◌, ◌++◌, Option, Some, None, slice_get}
use Rattle.dv_conservative.specs.Process.{Packet}
use Rattle.dv_proc.specs.Packets.{meant_packet, meant_packets}
use Rattle.dv_proc.specs.declared.packet.Packet.{Packet as PacketOfCode}
use Rattle.dv_link.specs.Ends.{IsSendPassOf, IsTakePassOf, receiver, sender}
use Rattle.dv_link.specs.declared.link.Link.{Link}
use Rattle.dv_work.specs.declared.seat.In.{In}
use Rattle.dv_work.specs.declared.seat.Out.{Out}

abbrev pub packets_held : Option PacketOfCode → List Packet
packets_held None = []
packets_held (Some p) = meant_packet p ∷ []

-- the packets that the process gave to an end: those that were put, and the held one
abbrev pub given : Out → List Packet
given o = meant_packets (sender o.pass).put ++ packets_held o.held

abbrev pub taken : In → List Packet
taken e = meant_packets (receiver e.pass).taken

-- an end is that of the link of its number
pub record IsOut {N : Type 0} (links : List (Link N)) (o : Out) : Type 0 where
  pub at : Link N
  pub is_at : slice_get links o.number ≡ Some at
  pub pass_of : IsSendPassOf at o.pass
  pub link_is : (sender o.pass).link ≡ o.number

pub record IsIn {N : Type 0} (links : List (Link N)) (e : In) : Type 0 where
  pub at : Link N
  pub is_at : slice_get links e.number ≡ Some at
  pub pass_of : IsTakePassOf at e.pass
  pub link_is : (receiver e.pass).link ≡ e.number
