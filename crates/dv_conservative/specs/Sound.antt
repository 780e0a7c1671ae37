-- What is required of a model that is run in parts: numbers of the language, states that fit, links that lead to ports, and a link between
-- processes wherever one between components crosses.
use Rattle.std.specs.Prelude.{◌≡◌, ℕ, zero, suc, Bool, true, false, not, ◌||◌, ◌&&◌, nat_eq, IsTrue, IsFalse, IfOk, List, []}
use Rattle.std.specs.Prelude.{◌∷◌, Option, None}
use Rattle.std.specs.List.{list_all}
use Rattle.dv_bag.specs.Bag.{Counts, is_number}
use Rattle.dv_bag.specs.declared.state.State.{State}
use Rattle.dv_devs.specs.Fits.{Keeps}
use Rattle.dv_conservative.specs.Events.{Event}
use Rattle.dv_conservative.specs.Flat.{IsNumberedFrom, Member}
use Rattle.dv_conservative.specs.Links.{Link}
use Rattle.dv_conservative.specs.Process.{Packet, Share, events_by, is_port_of}
use Rattle.dv_conservative.specs.Promise.{IsResponse}
use Rattle.dv_conservative.specs.World.{Channel, Job, owned}

-- whether all values are numbers of the language
abbrev pub is_of_numbers : Counts → Bool
is_of_numbers bag = list_all (λ p. is_number p.0) bag

abbrev pub are_of_numbers : List Counts → Bool
are_of_numbers bags = list_all is_of_numbers bags

-- From the states that fit, a component leads to states that fit, sends numbers, and has this response.
pub record IsSound (fits : State → Bool) (r : Option ℕ) (m : Member) : Type 0 where
  pub keeps : Keeps fits are_of_numbers m.behaviour
  pub responds : IsResponse fits are_of_numbers r m.behaviour
  pub sends : (s : State) → IsTrue (fits s) → IfOk (m.behaviour.output s) (λ bags. IsTrue (are_of_numbers bags))
  pub start : IsTrue (fits m.start.state)
  pub quiet : IsTrue m.start.quiet → m.start.next ≡ None

-- all components, by their numbers
abbrev pub AllSound : (ℕ → State → Bool) → (ℕ → Option ℕ) → List Member → Type 0
AllSound fits r [] = Unit {0}
AllSound fits r (m ∷ ms) = IsSound (fits m.number) (r m.number) m × AllSound fits r ms

-- the states that fit the component at an index
abbrev pub by_index : (ℕ → State → Bool) → List Member → ℕ → State → Bool
by_index fits [] k s = true
by_index fits (m ∷ ms) zero s = fits m.number s
by_index fits (m ∷ ms) (suc k) s = by_index fits ms k s

-- events of numbers of the language
abbrev pub AllNumbers : List Event → Type 0
AllNumbers [] = Unit {0}
AllNumbers (e ∷ es) = IsTrue (is_number e.value) × AllNumbers es

-- the same for all packets that were received
abbrev pub AllReceivedNumbers : (ℕ → List Packet) → List ℕ → Type 0
AllReceivedNumbers received [] = Unit {0}
AllReceivedNumbers received (l ∷ ls) = AllNumbers (events_by received l) × AllReceivedNumbers received ls

-- A share of components that are sound, to which numbers come from outside.
pub record IsSoundShare (fits : ℕ → State → Bool) (s : Share) : Type 0 where
  pub sound : AllSound fits (λ k. s.response) s.flat.members
  pub outside : (n : ℕ) → IsTrue (are_of_numbers (s.outside n))

-- every link leads to a port of a component
abbrev pub AllLead : List Member → List Link → Type 0
AllLead ms [] = Unit {0}
AllLead ms (l ∷ ls) = IsTrue (is_port_of ms l.to l.to_port) × AllLead ms ls

-- whether there is a link to a process from that of a component
abbrev pub is_heard : Job → ℕ → List Channel → ℕ → Bool
is_heard job q [] k = false
is_heard job q (c ∷ cs) k = (nat_eq c.target q && owned job c.source k) || is_heard job q cs k

-- no two links to a process are from one process
abbrev pub AreApart : Job → ℕ → List Channel → Type 0
AreApart job q [] = Unit {0}
AreApart job q (c ∷ cs) =
    (IsTrue (nat_eq c.target q) → (k : ℕ) → IsTrue (owned job c.source k) → IsFalse (is_heard job q cs k)) × AreApart job q cs

-- if a link between components leads to a process from another, there is a link between these
abbrev pub AllHeard : Job → ℕ → List Link → Type 0
AllHeard job q [] = Unit {0}
AllHeard job q (l ∷ ls) =
    (IsTrue (owned job q l.to) → is_heard job q job.channels l.from ≡ not (owned job q l.from)) × AllHeard job q ls

pub record IsJob (fits : ℕ → State → Bool) (job : Job) : Type 0 where
  pub numbered : IsNumberedFrom 0 job.flat.members
  pub sound : AllSound fits (λ k. job.responses (job.owner k)) job.flat.members
  pub outside : (n : ℕ) → IsTrue (are_of_numbers (job.outside n))
  pub lead : AllLead job.flat.members job.flat.links
  pub apart : (q : ℕ) → AreApart job q job.channels
  pub heard : (q : ℕ) → AllHeard job q job.flat.links
