-- The state of a process's components, as contracts see it.
use Rattle.std.specs.Prelude.{◌≡◌, ℕ, ◌<◌, ◌≤◌, List, [], length, count_by, Option, None, Some}
use Rattle.std.specs.List.{All}
use Rattle.dv_time.specs.Time.{IsOfRun, rank, time_of}
use Rattle.dv_time.specs.declared.time.Time.{Time}
use Rattle.dv_bag.specs.Bag.{Counts}
use Rattle.dv_bag.specs.Part.{PartOf}
use Rattle.dv_bag.specs.declared.state.State.{State}
use Rattle.dv_devs.specs.Behaviour.{Behaviour, is_imminent}
use Rattle.dv_react.specs.Components.{components_of}
use Rattle.dv_react.specs.declared.running.Running.{Running}
use Rattle.dv_conservative.specs.Links.{Delivery as Meant}
use Rattle.dv_share.specs.Share.{AreComponents, AreEmitted, StandByIndex, sents_by}
use Rattle.dv_share.specs.declared.link.Delivery.{Delivery}
use Rattle.dv_share.specs.declared.tables.Member.{Member}
use Rattle.dv_share.specs.Links.{deliveries_of}
use Rattle.dv_proc.specs.Local.{View}
use Rattle.dv_local.specs.Arrivals.{Arrivals, arrivals_at}
use Rattle.dv_local.specs.Shares.{IsShare, IsPortOf, share_by}
use Rattle.dv_local.specs.Undoing.{AreWithin, arrivals_but, undone, waits_of}
use Rattle.dv_local.specs.declared.state.LocalState.{LocalState}

-- what an inbox holds for each rank, but for a time that is taken
abbrev pub held_by : ℕ → Option Time → Arrivals → ℕ → List Meant
held_by limit taken inbox n = deliveries_of (arrivals_but taken (time_of limit n) inbox)

-- what contracts see of a state
abbrev pub view_by : {S R : Type 0} → (S → Behaviour) → (R → PartOf) → LocalState S R → View
view_by behaviour told x = record {
  share = share_by behaviour x.share;
  components = components_of x.share.tables.limit x.components.running;
  committed = told x.record;
  held = held_by x.share.tables.limit x.undo.taken x.inbox;
}

-- what contracts saw when all was settled
abbrev pub settled_by : {S R : Type 0} → (S → Behaviour) → (R → PartOf) → LocalState S R → View
settled_by behaviour settled x = record {
  share = share_by behaviour x.share;
  components = components_of x.share.tables.limit (undone x.undo.before x.components.running);
  committed = settled x.record;
  held = held_by x.share.tables.limit None x.inbox;
}

-- what was sent at the time of the last emission
abbrev pub sent_of : {S R : Type 0} → LocalState S R → List (List Counts)
sent_of x = sents_by 0 x.share.tables.members.items x.emitted

-- a delivery brings something: there is a copy, and a port for it
abbrev pub IsOfPort : List Member → Delivery → Type 0
IsOfPort ms d = (0 < d.copies) × IsPortOf ms d.component d.port

-- each arrival is at a time of the run and brings something
abbrev pub AllArrive : ℕ → List Member → Arrivals → Type 0
AllArrive limit ms inbox =
    ((t : Time) → All (IsOfPort ms) (arrivals_at t inbox)) × ((t : Time) → 0 < length (arrivals_at t inbox) → IsOfRun limit t)

-- how many of some components are imminent at a time
abbrev pub imminent_of : ℕ → Time → List Running → ℕ
imminent_of limit t rs = count_by (is_imminent (rank limit t)) (components_of limit rs)

-- what was emitted at a time, if there is one: by no more components than are imminent
abbrev pub AreEmittedIf : {S R : Type 0} → (S → Behaviour) → LocalState S R → Option Time → Type 0
AreEmittedIf behaviour x None = Unit {0}
AreEmittedIf behaviour x (Some t) =
    IsOfRun x.share.tables.limit t
    × AreEmitted behaviour x.share.tables (rank x.share.tables.limit t) x.components.running x.emitted
    × (length x.emitted ≤ imminent_of x.share.tables.limit t x.components.running)

-- the invariant of a state
pub record IsKept {S R : Type 0} (behaviour : S → Behaviour) (fits : S → State → Type 0) (comes : S → List Counts → Type 0)
    (x : LocalState S R) : Type 0 where
  pub share : IsShare fits x.share
  pub all_come : (a : S) (bags : List Counts) → comes a bags
  pub components : AreComponents fits x.share.tables x.components.running
  pub agenda : x.agenda ≡ waits_of x.components.running
  pub arrive : AllArrive x.share.tables.limit x.share.tables.members.items x.inbox
  pub within : AreWithin (length x.components.running) x.undo.before
  pub before : AreComponents fits x.share.tables (undone x.undo.before x.components.running)
  pub emitted : StandByIndex (length x.share.tables.members.items) x.emitted
  pub still : AreEmittedIf behaviour x x.emitted_at

-- nothing has changed since all was settled
pub record IsAtRest {S R : Type 0} (told settled : R → PartOf) (x : LocalState S R) : Type 0 where
  pub before : x.undo.before ≡ []
  pub committed : settled x.record ≡ told x.record
  pub taken : x.undo.taken ≡ None
