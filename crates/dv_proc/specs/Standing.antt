-- What a process is: its share, what was received, its position, what it committed, and the invariant of all these.
use Rattle.std.specs.Prelude.{◌≡◌, ℕ, suc, ◌<◌, ◌≤◌, length, None, ◌⊎◌, min, true, Bool, IsTrue, List, []}
use Rattle.dv_time.specs.Time.{IsOfRun, rank}
use Rattle.dv_time.specs.declared.time.Time.{Time}
use Rattle.dv_bag.specs.declared.state.State.{State}
use Rattle.dv_devs.specs.Behaviour.{is_at}
use Rattle.dv_devs.specs.NextTimes.{IsFrom, least_next}
use Rattle.dv_bag.specs.Part.{nothing}
use Rattle.dv_conservative.specs.Flat.{network}
use Rattle.dv_conservative.specs.Process.{IsWithin, Packet, Share, brings, components_by, end_rank, events_by, least_clock, refusal_of}
use Rattle.dv_conservative.specs.Sound.{AllReceivedNumbers, IsSoundShare}
use Rattle.dv_proc.specs.Arriving.{AreApart, AreClocked, IsIndex, incoming_numbers, received_by}
use Rattle.dv_proc.specs.Leaving.{ArePending, outgoing_numbers}
use Rattle.dv_proc.specs.Local.{DeliverAlike, IsLocalRun, View, are_for_ports}
use Rattle.dv_proc.specs.declared.incoming.Incoming.{Incoming}
use Rattle.dv_proc.specs.declared.outgoing.Outgoing.{Outgoing}

-- A process of a share at its clock: components that are sound; links by number, none twice, with their channel clocks, none
-- of which the clock passes; and what was sent, to the instant at the clock, is in packets or waits.
pub record IsStanding (s : Share) (incoming : List Incoming) (outgoing : List Outgoing) (clock : Time) : Type 0 where
  pub sound : (fits : ℕ → State → Bool) × IsSoundShare fits s
  pub linked : s.incoming ≡ incoming_numbers incoming
  pub apart : AreApart (incoming_numbers incoming)
  pub clocked : AreClocked s.limit incoming
  pub numbers : AllReceivedNumbers (received_by incoming) s.incoming
  pub within : IsWithin s clock
  pub heard : rank s.limit clock ≤ least_clock s (received_by incoming)
  pub away : AreApart (outgoing_numbers outgoing)
  pub pending : ArePending s (events_by (received_by incoming)) (min (suc (rank s.limit clock)) (end_rank s)) s.outgoing outgoing

-- The components, what is held and what is committed are the local run's at the clock.
pub record IsProcess (v : View) (incoming : List Incoming) (outgoing : List Outgoing) (clock : Time) : Type 0 where
  pub standing : IsStanding v.share incoming outgoing clock
  pub run : IsLocalRun v (events_by (received_by incoming)) (rank v.share.limit clock)

-- something is due at a rank: a component's next time, or an input
abbrev pub IsDue : Share → (ℕ → List Packet) → ℕ → Type 0
IsDue s received k =
    (IsTrue (is_at k (least_next (components_by s (events_by received) k)))) ⊎ (brings s (events_by received) k ≡ true)

-- the clock after a turn is the least channel clock, or a rank at which something is due
abbrev pub IsFar : Share → (ℕ → List Packet) → ℕ → Type 0
IsFar s received k = (k ≡ least_clock s received) ⊎ IsDue s received k

-- A packet passes all tests, and its link is at an index.
pub record IsAccepted (s : Share) (incoming : List Incoming) (p : Packet) (index : ℕ) : Type 0 where
  pub fine : refusal_of s (received_by incoming) p ≡ None
  pub there : index < length incoming
  pub at : IsIndex p.link index incoming
  pub of_run : IsOfRun s.limit p.upto
  pub ports : are_for_ports s p.events ≡ true

-- A local run as it begins: the components start, nothing is committed or held, and no component is imminent at 0.0.
pub record IsBegun (v : View) : Type 0 where
  pub components : v.components ≡ (network v.share.flat).start
  pub committed : v.committed ≡ nothing
  pub held : (n : ℕ) → DeliverAlike (v.held n) []
  pub later : IsFrom 1 (least_next v.components)
