-- What a world keeps, and the world that it is.
use Rattle.std.specs.Prelude.{ℕ, Bool, false, List, [], slice_get, Option, Some, None}
use Rattle.dv_time.specs.declared.time.Time.{Time}
use Rattle.dv_conservative.specs.Process.{Packet, first_time}
use Rattle.dv_conservative.specs.World.{Channel, Job, LinkState, World}
use Rattle.dv_core.specs.ProcessState.{ProcessState}

-- the capacity of the links, each process, whether each is stopped, and the packets on their way on each link
pub record Kept : Type 0 where
  pub capacity : ℕ
  pub states : List ProcessState
  pub stopped : List Bool
  pub queued : List (List Packet)

abbrev pub clock_of : Option ProcessState → Time
clock_of None = first_time
clock_of (Some x) = x.position.clock

abbrev pub received_of : Option ProcessState → ℕ → List Packet
received_of None l = []
received_of (Some x) l = x.received l

abbrev pub standing_of : Option ProcessState → ℕ → Option Packet
standing_of None l = None
standing_of (Some x) l = x.position.standing l

abbrev pub is_stopped : Option Bool → Bool
is_stopped None = false
is_stopped (Some b) = b

abbrev pub queue_of : Option (List Packet) → List Packet
queue_of None = []
queue_of (Some q) = q

-- a link: its receiver has what was received, and its sender what stands
abbrev pub link_of : Kept → ℕ → Option Channel → LinkState
link_of k l None = record { capacity = k.capacity; received = []; queued = []; standing = None }
link_of k l (Some c) = record {
  capacity = k.capacity;
  received = received_of (slice_get k.states c.target) l;
  queued = queue_of (slice_get k.queued l);
  standing = standing_of (slice_get k.states c.source) l;
}

abbrev pub world_of : Job → Kept → World
world_of job k = record {
  clock = λ p. clock_of (slice_get k.states p);
  stopped = λ p. is_stopped (slice_get k.stopped p);
  link = λ l. link_of k l (slice_get job.channels l);
}
