-- What is committed at an instant, component by component.
use Rattle.std.specs.Prelude.{◌≡◌, ℕ, List, ◌++◌, slice_get, slice_set, Some, Result}
use Rattle.std.specs.List.{All}
use Rattle.dv_bag.specs.Bag.{Counts}
use Rattle.dv_bag.specs.declared.entry.Entry.{Entry}
use Rattle.dv_bag.specs.declared.entry.What.{What}
use Rattle.dv_bag.specs.declared.entry.What.TheVariants as what
use Rattle.dv_bag.specs.declared.fault.Fault.{Fault}
use Rattle.dv_bag.specs.declared.state.State.{State}
use Rattle.dv_devs.specs.Behaviour.{Behaviour, emission}
use Rattle.dv_devs.specs.Network.{entry_of}
use Rattle.dv_react.specs.Components.{component_of}
use Rattle.dv_react.specs.Outcomes.{event_of, happened_in, left_by, sent_of}
use Rattle.dv_react.specs.Outcomes.{Outcome}
use Rattle.dv_react.specs.declared.happened.Happened.{Happened}
use Rattle.dv_react.specs.declared.happened.Happened.TheVariants as happened
use Rattle.dv_react.specs.declared.running.Running.{Running}
use Rattle.dv_share.specs.Commits.{entries_of}
use Rattle.dv_share.specs.Outcomes.{IsOutcome, IsOutcomeOf, behaviour_in}
use Rattle.dv_share.specs.Indices.{indices_of}
use Rattle.dv_share.specs.Rows.{number_of}
use Rattle.dv_share.specs.Share.{given_at, left_from}
use Rattle.dv_share.specs.declared.index.Indexed.{Indexed}
use Rattle.dv_share.specs.declared.tables.Member.{Member}
use Rattle.dv_share.specs.declared.tables.Tables.{Tables}

-- what was emitted at an index is what the output function of the component there gives
abbrev pub IsGivenAt : {S : Type 0} → (S → Behaviour) → Tables S → ℕ → List (Indexed (Result (List Counts) Fault)) → List Running → ℕ
    → Type 0
IsGivenAt behaviour t now es rs p =
    (m : Member) (r : Running) → slice_get t.members.items p ≡ Some m → slice_get rs p ≡ Some r
    → given_at p es ≡ emission (behaviour_in behaviour t m) now (component_of t.limit r)

-- The component at the index of an arrival reacted: it is the one that its outcome leaves, and its entry was committed.
pub record HasReacted {S : Type 0} (behaviour : S → Behaviour) (fits : S → State → Type 0) (t : Tables S) (now : ℕ)
    (es : List (Indexed (Result (List Counts) Fault))) (x : Indexed (List Counts)) (rs ss : List Running) (old new : List Entry) : Type 0
  where
    pub outcome : Outcome
    pub is : (r : Running) → slice_get rs x.index ≡ Some r → IsOutcomeOf behaviour fits t now r (given_at x.index es) x outcome
    pub components : (r : Running) → slice_get rs x.index ≡ Some r → ss ≡ slice_set rs x.index (left_by r outcome)
    pub entries : new ≡ old ++ entry_of t.limit now (number_of (slice_get t.members.items x.index))
        (event_of (happened_in outcome) (sent_of (given_at x.index es)))

-- The components at some indices reacted: they are those that their outcomes leave, and their entries were committed.
pub record HaveReacted {S : Type 0} (behaviour : S → Behaviour) (fits : S → State → Type 0) (t : Tables S) (now : ℕ) (rs : List Running)
    (es : List (Indexed (Result (List Counts) Fault))) (xs : List (Indexed (List Counts))) (ps : List ℕ) (ss : List Running)
    (old new : List Entry) : Type 0 where
  pub outcomes : List (Indexed Outcome)
  pub indices : indices_of outcomes ≡ ps
  pub right : All (λ (o : Indexed Outcome). IsOutcome behaviour fits t now rs es xs o.index o.what) outcomes
  pub components : ss ≡ left_from 0 rs outcomes
  pub entries : new ≡ old ++ entries_of t.limit now t.members.items es outcomes

-- what happened to a component, with the state after it
abbrev pub what_by : Happened → State → What
what_by (happened.Transition kind) s = what.Transition kind s
what_by (happened.Fault fault) s = what.Fault fault
