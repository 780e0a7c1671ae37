-- What the links and deliveries of the code stand for.
use Rattle.std.specs.Prelude.{ℕ, ◌*◌, Bool, nat_eq, List, filter, map, ℤ}
use Rattle.std.specs.List.Sorted.{IsNonDecreasingBy}
use Rattle.dv_bag.specs.Bag.{Counts, capped}
use Rattle.dv_bag.specs.declared.sent.Sending.{Sending}
use Rattle.dv_conservative.specs.Links.{Link as Meant, Delivery as MeantDelivery}
use Rattle.dv_share.specs.declared.link.Link.{Link}
use Rattle.dv_share.specs.declared.link.Delivery.{Delivery}

abbrev pub link_of : Link → Meant
link_of l = record { from = l.from; from_port = l.from_port; to = l.to; to_port = l.to_port; copies = l.copies }

abbrev pub links_of : List Link → List Meant
links_of ls = map link_of ls

abbrev pub delivery_of : Delivery → MeantDelivery
delivery_of d = record { component = d.component; port = d.port; value = d.value; copies = d.copies }

abbrev pub deliveries_of : List Delivery → List MeantDelivery
deliveries_of ds = map delivery_of ds

-- what a link makes of so many copies of a value
abbrev pub carried_one : Meant → ℤ → ℕ → MeantDelivery
carried_one l value copies = record { component = l.to; port = l.to_port; value = value; copies = capped (copies * l.copies) }

-- the values of sendings with their copies
abbrev pub pairs_of : List Sending → Counts
pairs_of ss = map (λ s. (s.value, s.copies)) ss

-- leads a link from a component
abbrev pub leads_from : ℕ → Meant → Bool
leads_from k l = nat_eq l.from k

-- links stand in the order of the ports that they lead from
abbrev pub RiseByPort : List Meant → Type 0
RiseByPort ls = IsNonDecreasingBy (λ (l : Meant). l.from_port) ls

-- links stand in the order of the components that they lead from, and those of one component in the order of its ports
pub record RiseBySource (ls : List Meant) : Type 0 where
  pub senders : IsNonDecreasingBy (λ (l : Meant). l.from) ls
  pub ports : (k : ℕ) → RiseByPort (filter (leads_from k) ls)
