-- A flat model, a share of it, and their networks.
use Rattle.std.specs.Prelude.{◌≡◌, ℕ, ◌+◌, Bool, not, if◌then◌else◌, List, [], ◌∷◌, ◌++◌, map, filter}
use Rattle.dv_bag.specs.Bag.{Counts}
use Rattle.dv_devs.specs.Behaviour.{Behaviour, Component}
use Rattle.dv_devs.specs.Network.{Network, emissions_at}
use Rattle.dv_conservative.specs.Links.{Link, Delivery, carried, inbox, sent_of, links_between}

-- a component: its number in the model, the number of its input ports, its behaviour and its start
pub record Member : Type 0 where
  pub number : ℕ
  pub ports : ℕ
  pub behaviour : Behaviour
  pub start : Component

-- components in the order of their numbers, links between them, links from outside and to the outside, and the number of ports of the
-- outside
pub record Flat : Type 0 where
  pub members : List Member
  pub links : List Link
  pub entrances : List Link
  pub exits : List Link
  pub outputs : ℕ

abbrev pub numbers : List Member → List ℕ
numbers ms = map (λ (m : Member). m.number) ms

abbrev pub behaviours : List Member → List Behaviour
behaviours ms = map (λ (m : Member). m.behaviour) ms

-- what each component receives of deliveries
abbrev pub received : List Member → List Delivery → List (List Counts)
received [] ds = []
received (m ∷ ms) ds = inbox m.number ds 0 m.ports ∷ received ms ds

-- Its network. At an instant come the bags of the outside, and deliveries from components that are not its own.
abbrev pub network : Flat → Network (List Counts × List Delivery)
network f = record {
  numbers = numbers f.members;
  behaviours = behaviours f.members;
  start = map (λ (m : Member). m.start) f.members;
  arrives = λ sent input.
      received f.members (carried f.entrances (λ k. input.0) ++ (carried f.links (sent_of (numbers f.members) sent) ++ input.1));
  leaves = λ sent. inbox 0 (carried f.exits (sent_of (numbers f.members) sent)) 0 f.outputs;
}

-- a whole model: all components are its own
abbrev pub whole : Flat → Network (List Counts)
whole f = record {
  numbers = (network f).numbers;
  behaviours = (network f).behaviours;
  start = (network f).start;
  arrives = λ sent input. (network f).arrives sent (input, []);
  leaves = (network f).leaves;
}

-- the share of a set of components: the links between them, and those that lead in from outside and out of the model
abbrev pub share : (ℕ → Bool) → Flat → Flat
share who f = record {
  members = filter (λ (m : Member). who m.number) f.members;
  links = links_between who who f.links;
  entrances = filter (λ (l : Link). who l.to) f.entrances;
  exits = filter (λ (l : Link). who l.from) f.exits;
  outputs = f.outputs;
}

-- of a list in the order of numbers, the elements of a set of numbers
abbrev pub kept : {X : Type 0} → (ℕ → Bool) → List ℕ → List X → List X
kept who [] xs = []
kept who (k ∷ ks) [] = []
kept who (k ∷ ks) (x ∷ xs) = if who k then x ∷ kept who ks xs else kept who ks xs

-- a stream of outside bags and a stream of deliveries, together
abbrev pub fed : (ℕ → List Counts) → (ℕ → List Delivery) → ℕ → List Counts × List Delivery
fed outside deliveries n = (outside n, deliveries n)

-- the crossings of a rank: what the whole run sends from one set of components to another
abbrev pub crossings : ℕ → Flat → (ℕ → List Counts) → (ℕ → Bool) → (ℕ → Bool) → ℕ → List Delivery
crossings limit f outside from to n =
    carried (links_between from to f.links) (sent_of (numbers f.members) (emissions_at limit (whole f) outside n))

abbrev pub others : (ℕ → Bool) → ℕ → Bool
others who k = not (who k)

-- what a share's run sends by outgoing links at a rank
abbrev pub sends_by : ℕ → Flat → List Link → (ℕ → List Counts × List Delivery) → ℕ → List Delivery
sends_by limit f away inputs n = carried away (sent_of (numbers f.members) (emissions_at limit (network f) inputs n))

-- components are numbered from k on without a gap
abbrev pub IsNumberedFrom : ℕ → List Member → Type 0
IsNumberedFrom k [] = Unit {0}
IsNumberedFrom k (m ∷ ms) = (m.number ≡ k) × IsNumberedFrom (k + 1) ms
