-- What comes of one component of a share at an instant.
use Rattle.std.specs.Prelude.{◌≡◌, ℕ, List, slice_get, Some, Result}
use Rattle.dv_bag.specs.Bag.{Counts}
use Rattle.dv_bag.specs.declared.fault.Fault.{Fault}
use Rattle.dv_bag.specs.declared.state.State.{State}
use Rattle.dv_devs.specs.Behaviour.{Behaviour, reaction}
use Rattle.dv_react.specs.Components.{IsWaitOfRun, component_of}
use Rattle.dv_react.specs.Outcomes.{left_by, reaction_by, sent_of}
use Rattle.dv_react.specs.Outcomes.{Outcome}
use Rattle.dv_react.specs.declared.running.Running.{Running}
use Rattle.dv_share.specs.Indices.{found}
use Rattle.dv_share.specs.Share.{FitsAt, behaviour_of, given_at}
use Rattle.dv_share.specs.declared.index.Indexed.{Indexed}
use Rattle.dv_share.specs.declared.tables.Member.{Member}
use Rattle.dv_share.specs.declared.tables.Tables.{Tables}

-- the behaviour of a member of the tables
abbrev pub behaviour_in : {S : Type 0} → (S → Behaviour) → Tables S → Member → Behaviour
behaviour_in behaviour t m = behaviour_of behaviour (slice_get t.models.items m.model)

-- What came of a component, from what its output function gave and the bags that come to its index: its reaction, and a
-- component that waits and fits.
pub record IsOutcomeOf {S : Type 0} (behaviour : S → Behaviour) (fits : S → State → Type 0) (t : Tables S) (now : ℕ)
    (r : Running) (given : Result (List Counts) Fault) (arrival : Indexed (List Counts)) (o : Outcome) : Type 0 where
  pub reacts : (m : Member) → slice_get t.members.items arrival.index ≡ Some m
      → reaction t.limit (behaviour_in behaviour t m) now (component_of t.limit r) arrival.what
      ≡ reaction_by t.limit r (sent_of given) o
  pub waits : IsWaitOfRun t.limit (left_by r o).wait
  pub fit : (m : Member) → slice_get t.members.items arrival.index ≡ Some m
      → FitsAt fits t.models.items m.model (left_by r o).state

-- What came of a component, at its index: its reaction to what it received, and a component that waits and fits.
pub record IsOutcome {S : Type 0} (behaviour : S → Behaviour) (fits : S → State → Type 0) (t : Tables S) (now : ℕ) (rs : List Running)
    (es : List (Indexed (Result (List Counts) Fault))) (xs : List (Indexed (List Counts))) (p : ℕ) (o : Outcome) : Type 0 where
  pub reacts : (m : Member) (r : Running) (bags : List Counts) → slice_get t.members.items p ≡ Some m → slice_get rs p ≡ Some r
      → found p xs ≡ Some bags → reaction t.limit (behaviour_in behaviour t m) now (component_of t.limit r) bags
      ≡ reaction_by t.limit r (sent_of (given_at p es)) o
  pub waits : (r : Running) → slice_get rs p ≡ Some r → IsWaitOfRun t.limit (left_by r o).wait
  pub fit : (m : Member) (r : Running) → slice_get t.members.items p ≡ Some m → slice_get rs p ≡ Some r
      → FitsAt fits t.models.items m.model (left_by r o).state
