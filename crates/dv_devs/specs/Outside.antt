-- What leaves several sets of components, united by time and port.
use Rattle.std.specs.Prelude.{◌≡◌, ℕ, ◌<◌, List, [], ◌∷◌}
use Rattle.std.specs.List.{All}
use Rattle.std.specs.Ordering.{match_ordering, nat_cmp, ordering_then}
use Rattle.std.specs.declared.cmp.Ordering.{Ordering}
use Rattle.dv_time.specs.Time.{time_cmp}
use Rattle.dv_bag.specs.Bag.{Counts, IsBag, union}
use Rattle.dv_bag.specs.declared.entry.Outer.{Outer}
use Rattle.dv_devs.specs.Network.{Network, emissions_at}

-- by time, then by port
abbrev pub line_cmp : Outer → Outer → Ordering
line_cmp a b = ordering_then (time_cmp a.time b.time) (nat_cmp a.port b.port)

-- with one more line; if there is a line of its time and port, their bags are united
abbrev pub with_line : Outer → List Outer → List Outer
with_line o [] = o ∷ []
with_line o (p ∷ ps) =
    match_ordering (line_cmp o p)
    (o ∷ p ∷ ps)
    (record { time = p.time; port = p.port; values = union p.values o.values } ∷ ps)
    (p ∷ with_line o ps)

-- the lines of both, by time and port
abbrev pub union_of_lines : List Outer → List Outer → List Outer
union_of_lines os [] = os
union_of_lines os (p ∷ ps) = union_of_lines (with_line p os) ps

-- the bags of both, port by port
abbrev pub union_of_bags : List Counts → List Counts → List Counts
union_of_bags [] bs = bs
union_of_bags (a ∷ rest) [] = a ∷ rest
union_of_bags (a ∷ rest) (b ∷ bs) = union a b ∷ union_of_bags rest bs

-- what is sent in both, component by component
abbrev pub union_of_sent : List (List Counts) → List (List Counts) → List (List Counts)
union_of_sent [] bs = bs
union_of_sent (a ∷ rest) [] = a ∷ rest
union_of_sent (a ∷ rest) (b ∷ bs) = union_of_bags a b ∷ union_of_sent rest bs

-- bags, at every port of every component
abbrev pub AllBags : List (List Counts) → Type 0
AllBags sent = All (All IsBag) sent

-- before a rank, what the components send are bags
abbrev pub SendsBags : {I : Type 0} → ℕ → Network I → (ℕ → I) → ℕ → Type 0
SendsBags limit net inputs n = (k : ℕ) → k < n → AllBags (emissions_at limit net inputs k)

-- what leaves is linear: bags if bags are sent, and for the union of what is sent in both it is the union
pub record LeavesLinearly {I : Type 0} (net : Network I) : Type 0 where
  pub bags : (sent : List (List Counts)) → AllBags sent → All IsBag (net.leaves sent)
  pub union : (a b : List (List Counts)) → AllBags a → AllBags b
      → net.leaves (union_of_sent a b) ≡ union_of_bags (net.leaves a) (net.leaves b)
