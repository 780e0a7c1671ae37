-- Bags by port, as a list of those with values.
use Rattle.std.specs.Prelude.{◌≡◌, ℕ, zero, suc, ◌+◌, ◌<◌, ◌≤◌, nat_eq, if◌then◌else◌, List, [], ◌∷◌, length, slice_index_or}
use Rattle.std.specs.List.{AllWithin}
use Rattle.dv_bag.specs.Bag.{Counts, total}
use Rattle.dv_bag.specs.declared.bags.PortBag.{PortBag}

-- the bag of a port; if there is none, there are no values
abbrev pub bag_in : ℕ → List PortBag → Counts
bag_in port [] = []
bag_in port (h ∷ hs) = if nat_eq h.port port then h.bag else bag_in port hs

-- a bag for each of a number of ports, from one on
abbrev pub from_port : ℕ → ℕ → (ℕ → Counts) → List Counts
from_port port zero bag = []
from_port port (suc ports) bag = bag port ∷ from_port (port + 1) ports bag

abbrev pub by_port : ℕ → List PortBag → List Counts
by_port ports hs = from_port 0 ports (λ port. bag_in port hs)

-- each bag has values, and is of one of these ports
abbrev pub AreWithin : ℕ → List PortBag → Type 0
AreWithin ports [] = Unit {0}
AreWithin ports (h ∷ hs) = (h.port < ports) × (0 < total h.bag) × AreWithin ports hs

-- the ports rise, from one on
abbrev pub RiseFrom : ℕ → List PortBag → Type 0
RiseFrom low [] = Unit {0}
RiseFrom low (h ∷ hs) = (low ≤ h.port) × RiseFrom (suc h.port) hs

-- the bag of a port is at an index
abbrev pub StandsAt : ℕ → ℕ → List PortBag → Type 0
StandsAt port index hs = (index < length hs) × ((d : PortBag) → (slice_index_or hs index d).port ≡ port)

-- there is no bag of a port, and one goes in at an index
abbrev pub GoesInAt : ℕ → ℕ → List PortBag → Type 0
GoesInAt port index hs = (index ≤ length hs)
    × AllWithin (λ h. h.port < port) hs 0 index
    × AllWithin (λ h. port < h.port) hs index (length hs)
