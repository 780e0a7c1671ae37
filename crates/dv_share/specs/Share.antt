-- What the tables of a share stand for, and the lists of an instant over them.
use Rattle.std.specs.Prelude.{◌≡◌, ℕ, suc, ◌<◌, ◌||◌, not, true, false, IsTrue, List, [], ◌∷◌, ◌++◌, map, length, slice_get, unwrap_or}
use Rattle.std.specs.Prelude.{Option, Some, None, Result, Ok}
use Rattle.std.specs.List.{All}
use Rattle.dv_bag.specs.Bag.{Counts}
use Rattle.dv_bag.specs.declared.fault.Fault.{Fault}
use Rattle.dv_bag.specs.declared.state.State.{State}
use Rattle.dv_devs.specs.Behaviour.{Behaviour, Reaction, all_empty, emission, is_imminent}
use Rattle.dv_devs.specs.Network.{components_after, emissions, instant}
use Rattle.dv_react.specs.Components.{AreWaitsOfRun, component_of, components_of}
use Rattle.dv_react.specs.Outcomes.{left_by, reaction_by, sent_of}
use Rattle.dv_react.specs.Outcomes.{Outcome}
use Rattle.dv_react.specs.Outcomes.{Nothing}
use Rattle.dv_react.specs.declared.running.Running.{Running}
use Rattle.dv_conservative.specs.Flat.{Flat, Member, behaviours, network}
use Rattle.dv_conservative.specs.Links.{Delivery, carried, inbox, sent_of as sent_from}
use Rattle.dv_share.specs.Indices.{AreRising, found, is_in, indices_of}
use Rattle.dv_share.specs.declared.index.Indexed.{Indexed}
use Rattle.dv_share.specs.declared.tables.Member.{Member as MemberOfTables}
use Rattle.dv_share.specs.declared.tables.Tables.{Tables}

-- the behaviour for a missing model: it does nothing
abbrev pub resting : Behaviour
resting = record {
  output = λ s. Ok [];
  internal = λ s. Ok (record { state = s; goes = false });
  external = λ elapsed bags s. Ok (record { state = s; goes = false });
  confluent = λ bags s. None;
  hold = λ s. Ok None;
}

abbrev pub behaviour_of : {S : Type 0} → (S → Behaviour) → Option S → Behaviour
behaviour_of behaviour None = resting
behaviour_of behaviour (Some a) = behaviour a

-- a component, by the behaviours of the models
abbrev pub member_by : {S : Type 0} → (S → Behaviour) → ℕ → List S → MemberOfTables → Member
member_by behaviour limit models m = record {
  number = m.number;
  ports = m.inputs;
  behaviour = behaviour_of behaviour (slice_get models m.model);
  start = component_of limit m.start;
}

-- the flat model of tables
abbrev pub flat_by : {S : Type 0} → (S → Behaviour) → Tables S → Flat
flat_by behaviour t = record {
  members = map (member_by behaviour t.limit t.models.items) t.members.items;
  links = t.links;
  entrances = t.entrances;
  exits = t.exits;
  outputs = t.outputs;
}

-- the state is one that the code of its model takes
abbrev pub FitsAt : {S : Type 0} → (S → State → Type 0) → List S → ℕ → State → Type 0
FitsAt {S} fits models k s = (a : S) → slice_get models k ≡ Some a → fits a s

-- components of the tables, index by index: as many as there are members, with waits of the run and states that fit
pub record AreComponents {S : Type 0} (fits : S → State → Type 0) (t : Tables S) (rs : List Running) : Type 0 where
  pub count : length rs ≡ length t.members.items
  pub waits : AreWaitsOfRun t.limit rs
  pub fit : (p : ℕ) (m : MemberOfTables) (r : Running) → slice_get t.members.items p ≡ Some m → slice_get rs p ≡ Some r
      → FitsAt fits t.models.items m.model r.state

abbrev pub starts_of : List MemberOfTables → List Running
starts_of ms = map (λ (m : MemberOfTables). m.start) ms

-- numbers rise, each member's model is there, and the starts are components
pub record AreTables {S : Type 0} (fits : S → State → Type 0) (t : Tables S) : Type 0 where
  pub rise : AreRising (map (λ (m : MemberOfTables). m.number) t.members.items)
  pub models : All (λ (m : MemberOfTables). m.model < length t.models.items) t.members.items
  pub starts : AreComponents fits t (starts_of t.members.items)

-- items by index: their indices rise, and are below a count
pub record StandByIndex {X : Type 0} (count : ℕ) (xs : List (Indexed X)) : Type 0 where
  pub rise : AreRising (indices_of xs)
  pub within : All (λ (x : Indexed X). x.index < count) xs

-- a component that is imminent is at one of the indices
abbrev pub HasImminent : ℕ → ℕ → List Running → List ℕ → Type 0
HasImminent limit now rs due =
    (p : ℕ) (r : Running) → slice_get rs p ≡ Some r → is_imminent now (component_of limit r) ≡ true → IsTrue (is_in p due)

-- a component at one of the indices is imminent
abbrev pub AreImminent : ℕ → ℕ → List Running → List ℕ → Type 0
AreImminent limit now rs due = All (λ p. (r : Running) → slice_get rs p ≡ Some r → is_imminent now (component_of limit r) ≡ true) due

-- indices that rise: those of the components that are imminent, and no others
pub record AreDue (limit now : ℕ) (rs : List Running) (due : List ℕ) : Type 0 where
  pub rise : AreRising due
  pub within : All (λ p. p < length rs) due
  pub imminent : HasImminent limit now rs due
  pub only : AreImminent limit now rs due

-- what the output function gave at an index; if none was applied, nothing is sent
abbrev pub given_at : ℕ → List (Indexed (Result (List Counts) Fault)) → Result (List Counts) Fault
given_at p es = unwrap_or (found p es) (Ok [])

-- what is sent at each index, from an index on
abbrev pub sents_by : ℕ → List MemberOfTables → List (Indexed (Result (List Counts) Fault)) → List (List Counts)
sents_by p [] es = []
sents_by p (m ∷ ms) es = sent_of (given_at p es) ∷ sents_by (suc p) ms es

abbrev pub numbers_of : List MemberOfTables → List ℕ
numbers_of ms = map (λ (m : MemberOfTables). m.number) ms

-- what each component sends, by its number
abbrev pub sent_in : List MemberOfTables → List (Indexed (Result (List Counts) Fault)) → ℕ → List Counts
sent_in ms es = sent_from (numbers_of ms) (sents_by 0 ms es)

-- There is an item for each index that is due, with what its output function gives; the others send nothing.
pub record AreEmitted {S : Type 0} (behaviour : S → Behaviour) (t : Tables S) (now : ℕ) (rs : List Running)
    (es : List (Indexed (Result (List Counts) Fault))) : Type 0 where
  pub indices : StandByIndex (length rs) es
  pub imminent : HasImminent t.limit now rs (indices_of es)
  pub given : (p : ℕ) (m : MemberOfTables) (r : Running) → slice_get t.members.items p ≡ Some m → slice_get rs p ≡ Some r
      → given_at p es ≡ emission (behaviour_of behaviour (slice_get t.models.items m.model)) now (component_of t.limit r)
  pub sent : emissions (behaviours (flat_by behaviour t).members) now (components_of t.limit rs) ≡ sents_by 0 t.members.items es

-- all that comes to the components at an instant: from outside, from one another, and by deliveries
abbrev pub coming : {S : Type 0} → Tables S → List (Indexed (Result (List Counts) Fault)) → List Counts → List Delivery → List Delivery
coming t es outside ds = carried t.entrances (λ k. outside) ++ (carried t.links (sent_in t.members.items es) ++ ds)

-- what deliveries make at the ports of a component
abbrev pub inbox_of : MemberOfTables → List Delivery → List Counts
inbox_of m ds = inbox m.number ds 0 m.inputs

-- Each item has the bags that deliveries make at its index; at an index without an item they bring no values.
pub record AreReceived (ms : List MemberOfTables) (ds : List Delivery) (xs : List (Indexed (List Counts))) : Type 0 where
  pub indices : StandByIndex (length ms) xs
  pub bags : All (λ (x : Indexed (List Counts)). (m : MemberOfTables) → slice_get ms x.index ≡ Some m → x.what ≡ inbox_of m ds) xs
  pub rest : (p : ℕ) (m : MemberOfTables) → slice_get ms p ≡ Some m → is_in p (indices_of xs) ≡ false
      → IsTrue (all_empty (inbox_of m ds))

-- at each index something was emitted, or a value comes
abbrev pub AreTouched : List ℕ → List (Indexed (List Counts)) → Type 0
AreTouched emitted xs = All (λ (x : Indexed (List Counts)). IsTrue (is_in x.index emitted || not (all_empty x.what))) xs

-- each index of the first is one of the second
abbrev pub AreAmong : List ℕ → List ℕ → Type 0
AreAmong ps qs = (p : ℕ) → IsTrue (is_in p ps) → IsTrue (is_in p qs)

-- the outcome at an index; without one nothing happens
abbrev pub outcome_at : ℕ → List (Indexed Outcome) → Outcome
outcome_at p os = unwrap_or (found p os) Nothing

-- the reactions that outcomes are, from an index on
abbrev pub reactions_by : ℕ → ℕ → List Running → List (Indexed (Result (List Counts) Fault)) → List (Indexed Outcome) → List Reaction
reactions_by limit p [] es os = []
reactions_by limit p (r ∷ rs) es os =
    reaction_by limit r (sent_of (given_at p es)) (outcome_at p os) ∷ reactions_by limit (suc p) rs es os

-- the components that outcomes leave, from an index on
abbrev pub left_from : ℕ → List Running → List (Indexed Outcome) → List Running
left_from p [] os = []
left_from p (r ∷ rs) os = left_by r (outcome_at p os) ∷ left_from (suc p) rs os

-- Each item is the outcome of the component at its index; without one nothing happens. Together they are the instant.
pub record AreOutcomes {S : Type 0} (behaviour : S → Behaviour) (t : Tables S) (now : ℕ) (rs : List Running) (outside : List Counts)
    (ds : List Delivery) (es : List (Indexed (Result (List Counts) Fault))) (os : List (Indexed Outcome)) : Type 0 where
  pub indices : StandByIndex (length rs) os
  pub reactions : instant t.limit (network (flat_by behaviour t)) now (outside, ds) (components_of t.limit rs)
      ≡ reactions_by t.limit 0 rs es os
  pub after : components_after t.limit (network (flat_by behaviour t)) now (outside, ds) (components_of t.limit rs)
      ≡ components_of t.limit (left_from 0 rs os)
