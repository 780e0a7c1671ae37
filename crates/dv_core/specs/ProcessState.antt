-- What a process is to the world.
use Rattle.std.specs.Prelude.{◌≡◌, ℕ, nat_eq, false, List, [], None}
use Rattle.dv_time.specs.Time.{rank}
use Rattle.dv_bag.specs.Part.{PartOf}
use Rattle.dv_devs.specs.Behaviour.{Component}
use Rattle.dv_conservative.specs.Process.{Packet, Share, components_by, events_by, first_time, part_by, refusal_of, with_packet}
use Rattle.dv_conservative.specs.Turn.{IsTurnOf, Position, Turned, turned}

-- its share of the model, its components, what it received by link, its position, and what it committed
pub record ProcessState : Type 0 where
  pub share : Share
  pub components : List Component
  pub received : ℕ → List Packet
  pub position : Position
  pub part : PartOf

-- what it has committed is the part of its local run before its clock
abbrev pub HasCommitted : ProcessState → Type 0
HasCommitted x = x.part ≡ part_by x.share (events_by x.received) (rank x.share.limit x.position.clock)

-- its components are those of its local run at its clock
abbrev pub StandsAtClock : ProcessState → Type 0
StandsAtClock x = x.components ≡ components_by x.share (events_by x.received) (rank x.share.limit x.position.clock)

-- as it begins
pub record IsNew (x : ProcessState) : Type 0 where
  pub received : (l : ℕ) → x.received l ≡ []
  pub clock : x.position.clock ≡ first_time
  pub standing : (l : ℕ) → x.position.standing l ≡ None
  pub promised : (l : ℕ) → x.position.promised l ≡ first_time
  pub committed : HasCommitted x
  pub components : StandsAtClock x

-- a turn: share and received packets stay, and the rest changes as a turn of the theory does
pub record IsTurned (answer : Turned) (before after : ProcessState) : Type 0 where
  pub share : after.share ≡ before.share
  pub received : after.received ≡ before.received
  pub turn : IsTurnOf before.share before.received before.position after.position
  pub answer_is : answer ≡ turned before.share before.position after.position
  pub committed : HasCommitted after
  pub components : StandsAtClock after

-- a packet that is received
pub record IsReceived (packet : Packet) (before after : ProcessState) : Type 0 where
  pub accepted : refusal_of before.share before.received packet ≡ None
  pub share : after.share ≡ before.share
  pub received : after.received ≡ with_packet before.received packet
  pub position : after.position ≡ before.position
  pub committed : HasCommitted after
  pub components : StandsAtClock after

-- the packet that was prepared on a link is gone, and all else stays
pub record IsSent (link : ℕ) (before after : ProcessState) : Type 0 where
  pub share : after.share ≡ before.share
  pub components : after.components ≡ before.components
  pub received : after.received ≡ before.received
  pub clock : after.position.clock ≡ before.position.clock
  pub promised : after.position.promised ≡ before.position.promised
  pub free : after.position.standing link ≡ None
  pub others : (l : ℕ) → nat_eq l link ≡ false → after.position.standing l ≡ before.position.standing l
  pub part : after.part ≡ before.part
