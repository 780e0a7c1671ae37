-- Stacks of types as a trie: a node adds a type to its parent. Nodes are numbered in the order in which they were made.
use Rattle.std.specs.Prelude.{◌≡◌, ℕ, ◌≤◌, ◌<◌, List, [], ◌∷◌, ◌++◌, length, slice_index_or, Option, Some, None}
use Rattle.dv_bag.specs.declared.value.ValueType.{ValueType}
use Rattle.dv_bag.specs.declared.value.ValueType.TheVariants.{Number, Truth}
use Rattle.dv_valid.specs.declared.stacks.Node.{Node}
use Rattle.dv_valid.specs.declared.stacks.Stack.{Stack}
use Rattle.dv_valid.specs.declared.stacks.Stack.TheVariants.{Empty, On}

-- stacks by number, each as its types, the top first
abbrev pub Stacks : Type 0
Stacks = List (List ValueType)

-- the types of the stack of a number
abbrev pub types_at : Stacks → ℕ → List ValueType
types_at stacks k = slice_index_or stacks k []

-- the types of a stack over those of lower numbers
abbrev pub stack_types : Stacks → Stack → List ValueType
stack_types lower Empty = []
stack_types lower (On top below) = top ∷ types_at lower below

-- the stacks of nodes, after those of lower numbers
abbrev pub stacks_after : Stacks → List Node → Stacks
stacks_after lower [] = lower
stacks_after lower (n ∷ nodes) = stacks_after (lower ++ stack_types lower n.stack ∷ []) nodes

-- the stacks of nodes
abbrev pub stacks_of : List Node → Stacks
stacks_of nodes = stacks_after [] nodes

-- a node with no link yet
abbrev pub bare_node : Stack → Node
bare_node s = record { stack = s; with_number = None; with_truth = None }

-- the number of the stack that is a type more
abbrev pub link : ValueType → Node → Option ℕ
link Number n = n.with_number
link Truth n = n.with_truth

-- the node once that stack has a number
abbrev pub with_link : ValueType → ℕ → Node → Node
with_link Number k n = record { stack = n.stack; with_number = Some k; with_truth = n.with_truth }
with_link Truth k n = record { stack = n.stack; with_number = n.with_number; with_truth = Some k }

-- the node of a number
abbrev pub node_at : List Node → ℕ → Node
node_at nodes k = slice_index_or nodes k (bare_node Empty)

-- Only the first stack is empty. Each other one is on top of one with a lower number, which has a link to it; there are no other links.
pub record IsTrie (nodes : List Node) : Type 0 where
  pub some : 0 < length nodes
  pub first : (node_at nodes 0).stack ≡ Empty
  pub alone : (k : ℕ) → k < length nodes → (node_at nodes k).stack ≡ Empty → k ≡ 0
  pub lower : (k below : ℕ) (top : ValueType) → (node_at nodes k).stack ≡ On top below → below < k
  pub linked : (k below : ℕ) (top : ValueType) → (node_at nodes k).stack ≡ On top below
      → link top (node_at nodes below) ≡ Some k
  pub links : (k below : ℕ) (top : ValueType) → link top (node_at nodes below) ≡ Some k
      → (k < length nodes) × ((node_at nodes k).stack ≡ On top below)

-- no number is lost, and each keeps its types
pub record Keeps (old new : Stacks) : Type 0 where
  pub all : length old ≤ length new
  pub each : (k : ℕ) → k < length old → types_at new k ≡ types_at old k
