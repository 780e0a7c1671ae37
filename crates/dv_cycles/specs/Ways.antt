-- Directed graphs: the node at an index leads to the nodes of its list. (Warshall 1962: ways through the nodes below an index.)
use Rattle.std.specs.Prelude.{◌≡◌, ℕ, zero, suc, ◌<◌, ◌==◌, ◌&&◌, ◌||◌, Bool, true, List, [], length, slice_index_or, All}
use Rattle.std.specs.List.{list_any}

-- a node is one of a list
abbrev pub is_in : ℕ → List ℕ → Bool
is_in v nodes = list_any (λ w. w == v) nodes

-- an edge leads from one node to another
abbrev pub leads : List (List ℕ) → ℕ → ℕ → Bool
leads graph u v = is_in v (slice_index_or graph u [])

-- a way of one node, of one edge, or through nodes below an index
abbrev pub has_way_below : ℕ → List (List ℕ) → ℕ → ℕ → Bool
has_way_below zero graph u v = u == v || leads graph u v
has_way_below (suc k) graph u v = has_way_below k graph u v || (has_way_below k graph u k && has_way_below k graph k v)

-- a way from one node to another
abbrev pub has_way : List (List ℕ) → ℕ → ℕ → Bool
has_way graph u v = has_way_below (length graph) graph u v

-- the targets of edges are nodes of the graph
abbrev pub IsGraph : List (List ℕ) → Type 0
IsGraph graph = All (All (λ v. v < length graph)) graph

-- edges one after the other
pub data Way (graph : List (List ℕ)) : ℕ → ℕ → Type 0 where
  Here : {u : ℕ} → Way graph u u
  Step : {u v w : ℕ} → leads graph u v ≡ true → Way graph v w → Way graph u w
