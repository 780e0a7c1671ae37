-- The parts of coupled models and routing between them, by tables alone.
use Rattle.std.specs.Prelude.{ℕ, zero, suc, ◌+◌, List, [], ◌∷◌, ◌++◌, map, replicate, drop, slice_index_or, Option, Some, None, refl}
use Rattle.std.specs.Coded.{Coded, code_by, coded×, coded_list, coded_ℕ, coded_ℤ}
use Rattle.dv_bag.specs.Bag.{Counts}
use Rattle.dv_tree.specs.Routing.{Arrived, along, along_all, first_bags}
use Rattle.dv_syntax.specs.Trees.{FileTree}
use Rattle.dv_check.specs.Limits.{greatest_depth}
use Rattle.dv_tree.specs.Tables.{LevelTable, levels_of, root_table}
use Rattle.dv_tree.specs.declared.resolved_parts.ResolvedPart.{ResolvedPart}

-- what has arrived is encoded as the pair of its fields
abbrev pub arrived_code : Coded Arrived
arrived_code =
    code_by (List Counts × List (List Counts))
    (coded× (coded_list (coded_list (coded× coded_ℤ coded_ℕ))) (coded_list (coded_list (coded_list (coded× coded_ℤ coded_ℕ)))))
    (λ a. (a.own, a.parts)) (λ p. record { own = p.0; parts = p.1 }) (λ _. refl)

-- parts in the order of the text, each with its name: none; or one and the rest, which has the index of its atomic model, or the
-- table of its coupled one and the parts inside
pub data Nodes : Type 0 where
  NoNodes : Nodes
  AtomicNode : (name model : ℕ) → (rest : Nodes) → Nodes
  CoupledNode : (name : ℕ) → (level : LevelTable) → (inside rest : Nodes) → Nodes

-- a part by the table of its model, if it has one
abbrev pub with_node : (LevelTable → Nodes) → ResolvedPart → Option LevelTable → Nodes → Nodes
with_node inside e None rest = AtomicNode e.name.number e.model rest
with_node inside e (Some l) rest = CoupledNode e.name.number l (inside l) rest

abbrev pub level_at : List (Option LevelTable) → ℕ → Option LevelTable
level_at levels index = slice_index_or levels index None

abbrev pub nodes_by : (LevelTable → Nodes) → List (Option LevelTable) → List ResolvedPart → Nodes
nodes_by inside levels [] = NoNodes
nodes_by inside levels (e ∷ resolved) = with_node inside e (level_at levels e.model) (nodes_by inside levels resolved)

-- the parts of a coupled model, down to a number of levels
abbrev pub nodes_to : ℕ → List (Option LevelTable) → LevelTable → Nodes
nodes_to zero levels l = NoNodes
nodes_to (suc depth) levels l = nodes_by (nodes_to depth levels) levels l.parts

-- the components inside: the path and the index of the model of each, where the paths begin with a path
abbrev pub components_in : List ℕ → Nodes → List (List ℕ × ℕ)
components_in before NoNodes = []
components_in before (AtomicNode name model rest) = (before ++ name ∷ [], model) ∷ components_in before rest
components_in before (CoupledNode name l inside rest) = components_in (before ++ name ∷ []) inside ++ components_in before rest

-- the numbers of atomic and of coupled models inside
abbrev pub atomic_count : Nodes → ℕ
atomic_count NoNodes = 0
atomic_count (AtomicNode name model rest) = suc (atomic_count rest)
atomic_count (CoupledNode name l inside rest) = atomic_count inside + atomic_count rest

abbrev pub coupled_count : Nodes → ℕ
coupled_count NoNodes = 0
coupled_count (AtomicNode name model rest) = coupled_count rest
coupled_count (CoupledNode name l inside rest) = suc (coupled_count inside) + coupled_count rest

-- no values at any port of a coupled model
abbrev pub nothing_in : LevelTable → Arrived
nothing_in l = record { own = replicate l.outputs []; parts = map (λ ports. replicate ports []) l.inputs }

-- what comes from its parts
abbrev pub from_level : LevelTable → List (List Counts) → Arrived
from_level l leaving = along_all l.of_parts leaving (nothing_in l)

-- what leaves each part, from what the components from there on send
abbrev pub leaving_nodes : Nodes → List (List Counts) → List (List Counts)
leaving_nodes NoNodes sent = []
leaving_nodes (AtomicNode name model rest) sent = first_bags sent ∷ leaving_nodes rest (drop 1 sent)
leaving_nodes (CoupledNode name l inside rest) sent =
    (from_level l (leaving_nodes inside sent)).own ∷ leaving_nodes rest (drop (atomic_count inside) sent)

-- what comes from the parts of each coupled model inside, a model before those inside it
abbrev pub kept_nodes : Nodes → List (List Counts) → List Arrived
kept_nodes NoNodes sent = []
kept_nodes (AtomicNode name model rest) sent = kept_nodes rest (drop 1 sent)
kept_nodes (CoupledNode name l inside rest) sent =
    (from_level l (leaving_nodes inside sent) ∷ kept_nodes inside sent) ++ kept_nodes rest (drop (atomic_count inside) sent)

-- what comes to the parts of a coupled model, from what came from them
abbrev pub to_level : LevelTable → List Counts → Arrived → List (List Counts)
to_level l input a = (along l.of_inputs input a).parts

-- what the components of a coupled model receive, from what comes to its inputs and what comes from parts
abbrev pub through_level : (List (List Counts) → List Arrived → List (List Counts)) → LevelTable → List Counts → List Arrived →
    List (List Counts)
through_level inside l input [] = []
through_level inside l input (a ∷ kept) = inside (to_level l input a) kept

abbrev pub arriving_nodes : Nodes → List (List Counts) → List Arrived → List (List Counts)
arriving_nodes NoNodes comes kept = []
arriving_nodes (AtomicNode name model rest) comes kept = first_bags comes ∷ arriving_nodes rest (drop 1 comes) kept
arriving_nodes (CoupledNode name l inside rest) comes kept =
    through_level (arriving_nodes inside) l (first_bags comes) kept
    ++ arriving_nodes rest (drop 1 comes) (drop (suc (coupled_count inside)) kept)

-- one part, by the table of its model, if it has one: how many components it has, what leaves it, what is kept of it
abbrev pub part_count : (LevelTable → Nodes) → Option LevelTable → ℕ
part_count inside None = 1
part_count inside (Some l) = atomic_count (inside l)

abbrev pub part_leaving : (LevelTable → Nodes) → Option LevelTable → List (List Counts) → List Counts
part_leaving inside None sent = first_bags sent
part_leaving inside (Some l) sent = (from_level l (leaving_nodes (inside l) sent)).own

abbrev pub part_kept : (LevelTable → Nodes) → Option LevelTable → List (List Counts) → List Arrived
part_kept inside None sent = []
part_kept inside (Some l) sent = from_level l (leaving_nodes (inside l) sent) ∷ kept_nodes (inside l) sent

-- how much of what is kept is of this part, and what its components receive
abbrev pub part_coupled : (LevelTable → Nodes) → Option LevelTable → ℕ
part_coupled inside None = 0
part_coupled inside (Some l) = suc (coupled_count (inside l))

abbrev pub part_received : (LevelTable → Nodes) → Option LevelTable → List Counts → List Arrived → List (List Counts)
part_received inside None comes kept = comes ∷ []
part_received inside (Some l) comes kept = through_level (arriving_nodes (inside l)) l comes kept

-- the table of the root, by its index
abbrev pub root_level : List (Option LevelTable) → Option ℕ → Option LevelTable
root_level levels None = None
root_level levels (Some index) = level_at levels index

-- the components of a text
abbrev pub components_of_root : List (Option LevelTable) → Option LevelTable → List (List ℕ × ℕ)
components_of_root levels None = []
components_of_root levels (Some l) = components_in [] (nodes_to greatest_depth levels l)

abbrev pub components_of : FileTree → List (List ℕ × ℕ)
components_of f = components_of_root (levels_of f.models) (root_table f)

-- what leaves the root
abbrev pub root_leaving : List (Option LevelTable) → Option LevelTable → List (List Counts) → List Counts
root_leaving levels None sent = []
root_leaving levels (Some l) sent = (from_level l (leaving_nodes (nodes_to greatest_depth levels l) sent)).own

-- what the components of parts of a root receive
abbrev pub received_in : LevelTable → Nodes → List (List Counts) → List Counts → List (List Counts)
received_in l inside sent input =
    arriving_nodes inside (to_level l input (from_level l (leaving_nodes inside sent))) (kept_nodes inside sent)

abbrev pub root_received : List (Option LevelTable) → Option LevelTable → List (List Counts) → List Counts → List (List Counts)
root_received levels None sent input = []
root_received levels (Some l) sent input = received_in l (nodes_to greatest_depth levels l) sent input
