-- What is sent, as one list of copies of values: the bag of each port has all copies that are sent there.
use Rattle.std.specs.Prelude.{◌≡◌, ℕ, zero, suc, ◌+◌, ◌^◌, ◌<◌, ◌≤◌, nat_eq, if◌then◌else◌, List, [], ◌∷◌, length, slice_index_or, ℤ, ◌<ℤ◌}
use Rattle.std.specs.List.{AllWithin}
use Rattle.std.specs.Ordering.{int_cmp, nat_cmp, ordering_then}
use Rattle.std.specs.declared.cmp.Ordering.{Ordering}
use Rattle.dv_bag.specs.Bag.{Counts, with_copies}
use Rattle.dv_bag.specs.declared.sent.Sending.{Sending}

-- the values of a bag, and those that are sent at a port
abbrev pub sent_into : ℕ → List Sending → Counts → Counts
sent_into port [] b = b
sent_into port (s ∷ ss) b = sent_into port ss (if nat_eq s.port port then with_copies s.value s.copies b else b)

abbrev pub sent_at : ℕ → List Sending → Counts
sent_at port ss = sent_into port ss []

-- each value that is sent at a port and its copies, in order
abbrev pub pairs_at : ℕ → List Sending → Counts
pairs_at port [] = []
pairs_at port (s ∷ ss) = if nat_eq s.port port then (s.value, s.copies) ∷ pairs_at port ss else pairs_at port ss

-- the bags of a number of ports, from one on
abbrev pub from_port : ℕ → ℕ → List Sending → List Counts
from_port port zero ss = []
from_port port (suc ports) ss = sent_at port ss ∷ from_port (port + 1) ports ss

abbrev pub by_port : ℕ → List Sending → List Counts
by_port ports ss = from_port 0 ports ss

-- copies are sent at these ports alone, and each count is above 0 and kept
abbrev pub AreWithin : ℕ → List Sending → Type 0
AreWithin ports [] = Unit {0}
AreWithin ports (s ∷ ss) = (s.port < ports) × (0 < s.copies) × (s.copies < 2 ^ 64) × AreWithin ports ss

-- the ports never fall, from one on
abbrev pub RiseFrom : ℕ → List Sending → Type 0
RiseFrom low [] = Unit {0}
RiseFrom low (s ∷ ss) = (low ≤ s.port) × RiseFrom s.port ss

-- the order of a value at a port and another value at its port: by port and then by value
abbrev pub sending_cmp : ℕ → ℤ → ℕ → ℤ → Ordering
sending_cmp port value other_port other_value = ordering_then (nat_cmp port other_port) (int_cmp value other_value)

-- the other port is greater, or the port is the same and the other value is greater
abbrev pub ComesBefore : ℕ → ℤ → ℕ → ℤ → Type 0
ComesBefore port value other_port other_value = (port ≤ other_port) × (port ≡ other_port → value <ℤ other_value)

-- each sending comes after the one before it, from a value at a port on
abbrev pub AreAfter : ℕ → ℤ → List Sending → Type 0
AreAfter port value [] = Unit {0}
AreAfter port value (s ∷ ss) = ComesBefore port value s.port s.value × AreAfter s.port s.value ss

-- each sending comes after the one before it
abbrev pub AreInOrder : List Sending → Type 0
AreInOrder [] = Unit {0}
AreInOrder (s ∷ ss) = AreAfter s.port s.value ss

-- this value at this port goes in at this index
abbrev pub IsIndexOf : ℕ → ℤ → ℕ → List Sending → Type 0
IsIndexOf port value index ss = (index ≤ length ss)
    × AllWithin (λ s. ComesBefore s.port s.value port value) ss 0 index
    × AllWithin (λ s. ComesBefore port value s.port s.value) ss index (length ss)

-- the copies of this value at this port are at this index
abbrev pub HasCopiesAt : ℕ → ℤ → ℕ → List Sending → Type 0
HasCopiesAt port value index ss = (index < length ss)
    × ((d : Sending) → ((slice_index_or ss index d).port ≡ port) × ((slice_index_or ss index d).value ≡ value))

-- the number of copies
abbrev pub copies_in : List Sending → ℕ
copies_in [] = 0
copies_in (s ∷ ss) = s.copies + copies_in ss
