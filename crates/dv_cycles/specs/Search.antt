-- What holds at each step of the search.
use Rattle.std.specs.Prelude.{◌≡◌, ℕ, ◌+◌, ◌-◌, ◌<◌, ◌≤◌, nat_lt, if◌then◌else◌, ◌⊎◌, Bool, true, false, List, length}
use Rattle.std.specs.Prelude.{slice_index_or, count_by}
use Rattle.dv_cycles.specs.Ways.{has_way, leads}
use Rattle.dv_cycles.specs.declared.search.Mark.{Mark}
use Rattle.dv_cycles.specs.declared.search.Mark.TheVariants.{New, OnPath, Done}
use Rattle.dv_cycles.specs.declared.search.Search.{Search}
use Rattle.dv_cycles.specs.declared.search.Segment.{Segment}

-- the mark of a node; an index that is no node counts as new
abbrev pub mark_at : List Mark → ℕ → Mark
mark_at marks node = slice_index_or marks node New

-- the node at a position of a path
abbrev pub node_at : List ℕ → ℕ → ℕ
node_at path position = slice_index_or path position 0

-- the segment that begins where the path does
abbrev pub nowhere : Segment
nowhere = record { first_node = 0; first_edge = 0 }

-- the segment at an index
abbrev pub segment_at : List Segment → ℕ → Segment
segment_at segments i = slice_index_or segments i nowhere

-- a node that has not been reached
abbrev pub is_new : Mark → Bool
is_new New = true
is_new (OnPath position) = false
is_new (Done component) = false

-- the number of nodes that have not been reached
abbrev pub new_count : List Mark → ℕ
new_count marks = count_by is_new marks

-- the number of a node that is done
abbrev pub number_of : Mark → ℕ
number_of New = 0
number_of (OnPath position) = 0
number_of (Done component) = component

-- no node becomes new
abbrev pub NoneAnew : List Mark → List Mark → Type 0
NoneAnew old new = (node : ℕ) → mark_at new node ≡ New → mark_at old node ≡ New

-- a way to a node of the graph
pub record Reaches (graph : List (List ℕ)) (u v : ℕ) : Type 0 where
  pub within : v < length graph
  pub way : has_way graph u v ≡ true

-- a node that is done, or on the path from a position on
abbrev pub IsHeld : ℕ → Mark → Type 0
IsHeld first New = ⊥
IsHeld first (OnPath position) = first ≤ position
IsHeld first (Done component) = Unit {0}

-- a node of a component that was done no later than a given one
abbrev pub IsDoneBy : ℕ → Mark → Type 0
IsDoneBy component New = ⊥
IsDoneBy component (OnPath position) = ⊥
IsDoneBy component (Done earlier) = earlier ≤ component

-- the mark of a node after the path from a position on has become a component
abbrev pub settled : ℕ → ℕ → Mark → Mark
settled component first New = New
settled component first (OnPath position) = if nat_lt position first then OnPath position else Done component
settled component first (Done earlier) = Done earlier

-- the state of a search: its marks, and its path, pending edges and segments as counts and functions of indices
pub record State : Type 0 where
  pub mark : ℕ → Mark
  pub nodes : ℕ
  pub node : ℕ → ℕ
  pub edges : ℕ
  pub target : ℕ → ℕ
  pub segments : ℕ
  pub segment : ℕ → Segment
  pub components : ℕ

-- the state of four lists
abbrev pub state : List Mark → List ℕ → List ℕ → List Segment → ℕ → State
state marks path pending segments components = record {
  mark = mark_at marks;
  nodes = length path;
  node = node_at path;
  edges = length pending;
  target = node_at pending;
  segments = length segments;
  segment = segment_at segments;
  components = components;
}

-- the state of a search
abbrev pub state_of : Search → State
state_of s = state s.marks.items s.path.items s.pending.items s.segments.items s.components

-- the node at which a segment begins
abbrev pub beginning : State → ℕ → ℕ
beginning s i = s.node (s.segment i).first_node

-- a pending edge, from an index on, leads to a node
pub record IsPending (edges : ℕ) (target : ℕ → ℕ) (first v : ℕ) : Type 0 where
  pub index : ℕ
  pub after : first ≤ index
  pub within : index < edges
  pub there : target index ≡ v

-- what is known of a segment, and of everything on the path and among the pending edges after its beginning
pub record IsSegment (graph : List (List ℕ)) (s : State) (i : ℕ) : Type 0 where
  pub on_path : (s.segment i).first_node < s.nodes
  pub in_pending : (s.segment i).first_edge ≤ s.edges
  pub leads_on : (p : ℕ) → (s.segment i).first_node ≤ p → p < s.nodes → Reaches graph (beginning s i) (s.node p)
  pub leads_out : (k : ℕ) → (s.segment i).first_edge ≤ k → k < s.edges → Reaches graph (beginning s i) (s.target k)
  pub closed : (p v : ℕ) → (s.segment i).first_node ≤ p → p < s.nodes → leads graph (s.node p) v ≡ true
      → IsHeld (s.segment i).first_node (s.mark v) ⊎ IsPending s.edges s.target (s.segment i).first_edge v

-- one segment begins before another
pub record IsBefore (s t : Segment) : Type 0 where
  pub by_node : s.first_node < t.first_node
  pub by_edge : s.first_edge ≤ t.first_edge

-- the segment of a position, which leads back to the beginning of the segment
pub record HasSegment (graph : List (List ℕ)) (s : State) (p : ℕ) : Type 0 where
  pub index : ℕ
  pub is_segment : index < s.segments
  pub begun : (s.segment index).first_node ≤ p
  pub not_ended : (i : ℕ) → index < i → i < s.segments → p < (s.segment i).first_node
  pub leads_back : Reaches graph (s.node p) (beginning s index)

-- a node of a component leads to nodes of components that were done no later
pub record IsSettled (graph : List (List ℕ)) (s : State) (u component : ℕ) : Type 0 where
  pub numbered : component < s.components
  pub leads_down : (v : ℕ) → leads graph u v ≡ true → IsDoneBy component (s.mark v)

-- a node is at the position of the path that its mark says
pub record IsPositioned (nodes : ℕ) (node : ℕ → ℕ) (v position : ℕ) : Type 0 where
  pub on_path : position < nodes
  pub there : node position ≡ v

-- marks say which nodes are on a path, and where
pub record IsPath (mark : ℕ → Mark) (nodes : ℕ) (node : ℕ → ℕ) : Type 0 where
  pub positioned : (v position : ℕ) → mark v ≡ OnPath position → IsPositioned nodes node v position
  pub on_path : (p : ℕ) → p < nodes → mark (node p) ≡ OnPath p

-- the invariant of the search
pub record IsValid (graph : List (List ℕ)) (s : State) : Type 0 where
  pub path : IsPath s.mark s.nodes s.node
  pub pending : (k : ℕ) → k < s.edges → s.target k < length graph
  pub segment : (i : ℕ) → i < s.segments → IsSegment graph s i
  pub before : (i j : ℕ) → i < j → j < s.segments → IsBefore (s.segment i) (s.segment j)
  pub covered : (p : ℕ) → p < s.nodes → HasSegment graph s p
  pub done : (u component : ℕ) → s.mark u ≡ Done component → IsSettled graph s u component
  pub together : (u v component : ℕ) → s.mark u ≡ Done component → s.mark v ≡ Done component → Reaches graph u v

-- the invariant of a search with a mark for each node, and with no more components, begun and to come, than nodes
pub record IsSearch (graph : List (List ℕ)) (s : Search) : Type 0 where
  pub marked : length s.marks.items ≡ length graph
  pub counted : s.components + length s.segments.items + new_count s.marks.items ≤ length graph
  pub state : IsValid graph (state_of s)

-- the beginning of each segment leads to a node
abbrev pub LeadTo : List (List ℕ) → State → ℕ → Type 0
LeadTo graph s v = (i : ℕ) → i < s.segments → Reaches graph (beginning s i) v

-- the last segment
abbrev pub last_segment : State → Segment
last_segment s = s.segment (s.segments - 1)

-- the node that the last pending edge leads to
abbrev pub last_target : State → ℕ
last_target s = s.target (s.edges - 1)

-- the last segment has a pending edge
pub record IsOpen (s : State) : Type 0 where
  pub begun : 0 < s.segments
  pub edge : (last_segment s).first_edge < s.edges
