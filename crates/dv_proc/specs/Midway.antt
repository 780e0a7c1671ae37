-- A process in the middle of a turn: what is sent was computed, and no packet is prepared yet.
use Rattle.std.specs.Prelude.{◌≡◌, ℕ, suc, ◌≤◌, min, Bool, List, [], ◌∷◌}
use Rattle.dv_time.specs.Time.{rank}
use Rattle.dv_time.specs.declared.time.Time.{Time}
use Rattle.dv_bag.specs.declared.state.State.{State}
use Rattle.dv_conservative.specs.Events.{Event, events_between}
use Rattle.dv_conservative.specs.Process.{IsWithin, Outgoing as OutgoingAsMeant, Share, end_rank, events_by, least_clock, sent_on}
use Rattle.dv_conservative.specs.Sound.{AllReceivedNumbers, IsSoundShare}
use Rattle.dv_conservative.specs.Turn.{Done, Moved, Position, Turned as TurnedAsMeant, Waiting}
use Rattle.dv_proc.specs.Advancing.{waiting}
use Rattle.dv_proc.specs.Arriving.{AreApart, AreClocked, incoming_numbers, received_by}
use Rattle.dv_proc.specs.Leaving.{outgoing_numbers, standing_on}
use Rattle.dv_proc.specs.Local.{IsLocalRun, View}
use Rattle.dv_proc.specs.Packets.{meant_events}
use Rattle.dv_proc.specs.declared.incoming.Incoming.{Incoming}
use Rattle.dv_proc.specs.declared.outgoing.Outgoing.{Outgoing}
use Rattle.dv_proc.specs.declared.process.Turned.{Turned}
use Rattle.dv_proc.specs.declared.process.Turned.TheVariants as turned

-- what is sent on a link and is in no packet yet, to a rank, waits or was computed
pub record IsCaught (s : Share) (events : ℕ → List Event) (upto : ℕ) (emitted : Bool) (now : Time) (out : OutgoingAsMeant)
    (o : Outgoing) : Type 0 where
  pub number : out.number ≡ o.number
  pub within : IsWithin s o.promised
  pub caught : meant_events (waiting emitted now o) ≡ events_between s.limit (sent_on s events out) (rank s.limit o.promised) upto

-- so it is on all links
abbrev pub AreCaught : Share → (ℕ → List Event) → ℕ → Bool → Time → List OutgoingAsMeant → List Outgoing → Type 0
AreCaught s events upto emitted now [] [] = Unit {0}
AreCaught s events upto emitted now (out ∷ outs) (o ∷ os) = IsCaught s events upto emitted now out o × AreCaught s events upto emitted now
    outs os
AreCaught s events upto emitted now [] (o ∷ os) = ⊥
AreCaught s events upto emitted now (out ∷ outs) [] = ⊥

-- a process whose clock is about to be a time
pub record IsMidway (v : View) (incoming : List Incoming) (outgoing : List Outgoing) (emitted : Bool) (now : Time) : Type 0 where
  pub sound : (fits : ℕ → State → Bool) × IsSoundShare fits v.share
  pub linked : v.share.incoming ≡ incoming_numbers incoming
  pub apart : AreApart (incoming_numbers incoming)
  pub clocked : AreClocked v.share.limit incoming
  pub numbers : AllReceivedNumbers (received_by incoming) v.share.incoming
  pub within : IsWithin v.share now
  pub heard : rank v.share.limit now ≤ least_clock v.share (received_by incoming)
  pub away : AreApart (outgoing_numbers outgoing)
  pub caught : AreCaught v.share (events_by (received_by incoming)) (min (suc (rank v.share.limit now)) (end_rank v.share)) emitted now
      v.share.outgoing outgoing
  pub run : IsLocalRun v (events_by (received_by incoming)) (rank v.share.limit now)

-- a position has of a link what the code has
pub record StandsAt (x : Position) (out : OutgoingAsMeant) (o : Outgoing) : Type 0 where
  pub number : out.number ≡ o.number
  pub standing : x.standing out.number ≡ standing_on o.standing
  pub promised : x.promised out.number ≡ o.promised

abbrev pub AllStand : Position → List OutgoingAsMeant → List Outgoing → Type 0
AllStand x [] [] = Unit {0}
AllStand x (out ∷ outs) (o ∷ os) = StandsAt x out o × AllStand x outs os
AllStand x [] (o ∷ os) = ⊥
AllStand x (out ∷ outs) [] = ⊥

-- what a turn did, in the words of the theory
abbrev pub meant_turned : Turned → TurnedAsMeant
meant_turned turned.Moved = Moved
meant_turned turned.Waiting = Waiting
meant_turned turned.Done = Done
