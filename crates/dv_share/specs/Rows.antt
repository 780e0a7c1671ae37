-- What stands between the lists of the code and those of the theory.
use Rattle.std.specs.Prelude.{ℕ, ◌+◌, ◌≤◌, ◌<◌, Bool, false, ◌&&◌, nat_eq, if◌then◌else◌, length, slice_index_or, ◌≡◌, List, []}
use Rattle.std.specs.Prelude.{◌∷◌, ◌++◌, filter, slice_get, Option, Some, None, Result}
use Rattle.std.specs.List.{AllWithin}
use Rattle.std.specs.Ordering.{int_eq, is_lt}
use Rattle.dv_bag.specs.Bag.{Counts, capped}
use Rattle.dv_bag.specs.declared.fault.Fault.{Fault}
use Rattle.dv_react.specs.Outcomes.{sent_of}
use Rattle.dv_conservative.specs.Events.{delivery_cmp}
use Rattle.dv_conservative.specs.Links.{Link, Delivery, carried, carried_by}
use Rattle.dv_share.specs.Links.{delivery_of, leads_from}
use Rattle.dv_share.specs.declared.link.Delivery.{Delivery as DeliveryOfCode}
use Rattle.dv_share.specs.declared.link.Link.{Link as LinkOfCode}
use Rattle.dv_share.specs.declared.index.Indexed.{Indexed}
use Rattle.dv_share.specs.declared.tables.Member.{Member}

-- the number of a member, if it is there
abbrev pub number_of : Option Member → ℕ
number_of None = 0
number_of (Some m) = m.number

-- what links carry of one bag, one after the other
abbrev pub carried_each : List Link → Counts → List Delivery
carried_each [] b = []
carried_each (l ∷ ls) b = carried_by l b ++ carried_each ls b

-- what is carried of the emissions, one after the other
abbrev pub rows : List Member → List Link → List (Indexed (Result (List Counts) Fault)) → List Delivery
rows ms links [] = []
rows ms links (e ∷ es) =
    carried (filter (leads_from (number_of (slice_get ms e.index))) links) (λ k. sent_of e.what) ++ rows ms links es

-- no delivery comes before the one in front of it
abbrev pub AreSorted : List DeliveryOfCode → Type 0
AreSorted ds = (k : ℕ) (d : DeliveryOfCode) → 0 ≤ k → k + 1 < length ds
    → is_lt (delivery_cmp (delivery_of (slice_index_or ds (k + 1) d)) (delivery_of (slice_index_or ds k d))) ≡ false

-- are two deliveries for one port and value
abbrev pub same_key : Delivery → Delivery → Bool
same_key d e = nat_eq e.component d.component && (nat_eq e.port d.port && int_eq e.value d.value)

-- with a delivery in front of those in order that come after it, or together with the first
abbrev pub joined_before : Delivery → List Delivery → List Delivery
joined_before d [] = d ∷ []
joined_before d (e ∷ es) =
    if same_key d e then record { component = e.component; port = e.port; value = e.value; copies = capped (d.copies + e.copies) } ∷ es
    else d ∷ e ∷ es

-- At each number stands where the links of that component begin, among links in the order of the components that they lead from; each of
-- these has a start, and behind it where its links end.
pub record AreStarts (links : List LinkOfCode) (starts : List ℕ) : Type 0 where
  pub within : (c : ℕ) → c < length starts → slice_index_or starts c 0 ≤ length links
  pub before : (c : ℕ) → c < length starts → AllWithin (λ (l : LinkOfCode). l.from < c) links 0 (slice_index_or starts c 0)
  pub from : (c : ℕ) → c < length starts → AllWithin (λ (l : LinkOfCode). c ≤ l.from) links (slice_index_or starts c 0) (length links)
  pub all : AllWithin (λ (l : LinkOfCode). l.from + 1 < length starts) links 0 (length links)
