-- The rule of a link's queue.
use Rattle.std.specs.Prelude.{◌≡◌, ℕ, true, List, ◌++◌, slice_get, Some}
use mathlib.Core.Option.{some}
use lib.ListN.{get_elem?}
use Rattle.dv_conservative.specs.Process.{Packet as MeantPacket, clock_after, first_time}
use Rattle.dv_conservative.specs.True.{AreTrue, IsTruePacket}
use Rattle.dv_conservative.specs.World.{Channel, Job}
use Rattle.dv_proc.specs.Packets.{meant_packet, meant_packets}
use Rattle.dv_proc.specs.declared.packet.Packet.{Packet}
use Rattle.dv_link.specs.declared.rule.EndView.{EndView}

-- the job has a link of that number
pub record IsLinkOf (job : Job) (link : ℕ) : Type 0 where
  pub channel : Channel
  pub there : slice_get job.channels link ≡ Some channel

-- the job has a link of that number, and they are true packets of it, whose windows join from the start
pub record AreTrueOn (job : Job) (link : ℕ) (ps : List MeantPacket) : Type 0 where
  pub channel : Channel
  pub there : slice_get job.channels link ≡ Some channel
  pub truth : AreTrue job link channel first_time ps

-- the job has a link of that number, and it is a true packet of it, whose window joins the last of those
pub record IsNextOn (job : Job) (link : ℕ) (ps : List Packet) (p : Packet) : Type 0 where
  pub channel : Channel
  pub there : slice_get job.channels link ≡ Some channel
  pub joins : p.from ≡ clock_after first_time (meant_packets ps)
  pub truth : IsTruePacket job link channel (meant_packet p)

-- The same of packets in the rule of a queue, which says nothing of a number that no link has: a queue begins with the number 0 in a
-- job that has no links.
abbrev pub AllTrue : Job → ℕ → List Packet → Type 0
AllTrue job link ps = (c : Channel) → slice_get job.channels link ≡ Some c → AreTrue job link c first_time (meant_packets ps)

-- at most one end puts, and knows the link and all that was put; and the same for what was taken
abbrev pub Fits : ℕ → ℕ → ℕ → List Packet → List Packet → ℕ → EndView → Type 0
Fits sender receiver link put taken end v =
    (v.puts ≡ true → (end ≡ sender) × (v.link ≡ link) × (v.put ≡ put))
    × (v.takes ≡ true → (end ≡ receiver) × (v.link ≡ link) × (v.taken ≡ taken))

-- what was put is what was taken and then what the queue holds, and it is true packets whose windows join
abbrev pub Carries : Job → List Packet → List EndView → Type 0
Carries job items views =
    (sender : ℕ) × (receiver : ℕ) × (link : ℕ) × (put : List Packet) × (taken : List Packet)
    × (put ≡ taken ++ items)
    × AllTrue job link put
    × ((end : ℕ) (v : EndView) → get_elem? views end ≡ some v → Fits sender receiver link put taken end v)
