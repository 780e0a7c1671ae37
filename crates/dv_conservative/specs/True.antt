-- True packets: those that carry exactly what crosses.
use Rattle.std.specs.Prelude.{◌≡◌, ℕ, zero, suc, ◌<◌, List, [], ◌∷◌}
use Rattle.dv_time.specs.Time.{rank}
use Rattle.dv_time.specs.declared.time.Time.{Time}
use Rattle.dv_bag.specs.declared.entry.Outer.{Outer}
use Rattle.dv_devs.specs.Outside.{union_of_lines}
use Rattle.dv_conservative.specs.Events.{events_between}
use Rattle.dv_conservative.specs.Flat.{crossings}
use Rattle.dv_conservative.specs.Links.{Delivery}
use Rattle.dv_conservative.specs.Process.{IsWithin, Packet}
use Rattle.dv_conservative.specs.World.{Channel, Job, owned, share_of}

-- the crossings by a link: what the whole run sends from the components of its sender to those of its receiver
abbrev pub crossing_by : Job → Channel → ℕ → List Delivery
crossing_by job c n = crossings job.limit job.flat job.outside (owned job c.source) (owned job c.target) n

-- A true packet of a link: its window is within the run, and its events are exactly the crossings of the window, in order.
pub record IsTruePacket (job : Job) (l : ℕ) (c : Channel) (p : Packet) : Type 0 where
  pub link : p.link ≡ l
  pub later : rank job.limit p.from < rank job.limit p.upto
  pub within : IsWithin (share_of job c.target) p.upto
  pub events : p.events ≡ events_between job.limit (crossing_by job c) (rank job.limit p.from) (rank job.limit p.upto)

-- true packets whose windows join from a time on
abbrev pub AreTrue : Job → ℕ → Channel → Time → List Packet → Type 0
AreTrue job l c start [] = Unit {0}
AreTrue job l c start (p ∷ ps) = (p.from ≡ start) × IsTruePacket job l c p × AreTrue job l c p.upto ps

-- what leaves a number of processes, united by time and port
abbrev pub united : (ℕ → List Outer) → ℕ → List Outer
united lines zero = []
united lines (suc n) = union_of_lines (united lines n) (lines n)
