-- Routing along the links of coupled models: each link carries one copy of every value, so a value arrives once for every way. (Closure
-- under coupling.)
use Rattle.std.specs.Prelude.{ℕ, List, [], ◌∷◌, ◌++◌, map, length, replicate, take, drop, fold, slice_set, slice_index_or, Option}
use Rattle.std.specs.Prelude.{Some, None}
use Rattle.dv_syntax.specs.Trees.{ModelTree, CoupledTree, FileTree}
use Rattle.dv_bag.specs.Bag.{Counts, bag_at, union}
use Rattle.dv_check.specs.Tree.{PartTree, NoParts, AtomicPart, CoupledPart, component_count, tree_of}
use Rattle.dv_tree.specs.Instances.{root_of}
use Rattle.dv_tree.specs.Couplings.{Shown, shown_parts, couplings_of_inputs, couplings_of_parts}
use Rattle.dv_tree.specs.declared.couplings.Target.{Target}
use Rattle.dv_tree.specs.declared.couplings.Target.TheVariants.{Own, OfPart}
use Rattle.dv_tree.specs.declared.couplings.Coupling.{Coupling}

-- what has arrived at the ports that the links of a coupled model lead to: its own outputs, and the inputs of each part
pub record Arrived : Type 0 where
  pub own : List Counts
  pub parts : List (List Counts)

-- more values at a port; at a port past the last they are dropped
abbrev pub joined_at : ℕ → Counts → List Counts → List Counts
joined_at port more bags = slice_set bags port (union (bag_at bags port) more)

-- more values at a target
abbrev pub with_values : Target → Counts → Arrived → Arrived
with_values (Own port) more a = record { own = joined_at port more a.own; parts = a.parts }
with_values (OfPart part port) more a =
    record { own = a.own; parts = slice_set a.parts part (joined_at port more (slice_index_or a.parts part [])) }

-- with what a coupling carries, from the bags at its source
abbrev pub with_coupling : List Counts → Arrived → Coupling → Arrived
with_coupling bags a c = with_values c.target (bag_at bags c.port) a

-- one copy of what is at a source for each of its couplings
abbrev pub along : List Coupling → List Counts → Arrived → Arrived
along couplings bags a = fold (with_coupling bags) a couplings

-- the same for what leaves each part, in the order of the parts
abbrev pub along_all : List (List Coupling) → List (List Counts) → Arrived → Arrived
along_all [] leaving a = a
along_all (cs ∷ couplings) [] a = a
along_all (cs ∷ couplings) (bags ∷ leaving) a = along_all couplings leaving (along cs bags a)

-- no values at any port
abbrev pub nothing_at : List ModelTree → CoupledTree → Arrived
nothing_at models m = record {
  own = replicate (length m.outputs) [];
  parts = map (λ (s : Shown). replicate (length s.inputs) []) (shown_parts models m);
}

-- what comes from the parts of a model
abbrev pub from_parts : List ModelTree → CoupledTree → List (List Counts) → Arrived
from_parts models m leaving = along_all (couplings_of_parts models m) leaving (nothing_at models m)

-- what comes to the parts of a model: from other parts, and from the model's own inputs
abbrev pub to_parts : List ModelTree → CoupledTree → List Counts → List (List Counts) → List (List Counts)
to_parts models m input leaving = (along (couplings_of_inputs models m) input (from_parts models m leaving)).parts

-- the bags of the first part or component
abbrev pub first_bags : List (List Counts) → List Counts
first_bags [] = []
first_bags (bags ∷ rest) = bags

-- what leaves each part, by output port, from what the components in the parts send, in the order of their numbers
abbrev pub leaving : List ModelTree → PartTree → List (List Counts) → List (List Counts)
leaving models NoParts sent = []
leaving models (AtomicPart name m rest) sent = first_bags sent ∷ leaving models rest (drop 1 sent)
leaving models (CoupledPart name m inside rest) sent =
    (from_parts models m (leaving models inside (take (component_count inside) sent))).own
    ∷ leaving models rest (drop (component_count inside) sent)

-- what each component receives, from what comes to the inputs of each part and what the components send
abbrev pub arriving : List ModelTree → PartTree → List (List Counts) → List (List Counts) → List (List Counts)
arriving models NoParts comes sent = []
arriving models (AtomicPart name m rest) comes sent = first_bags comes ∷ arriving models rest (drop 1 comes) (drop 1 sent)
arriving models (CoupledPart name m inside rest) comes sent =
    arriving models inside
    (to_parts models m (first_bags comes) (leaving models inside (take (component_count inside) sent)))
    (take (component_count inside) sent)
    ++ arriving models rest (drop 1 comes) (drop (component_count inside) sent)

abbrev pub leaves_root : List ModelTree → Option CoupledTree → List (List Counts) → List Counts
leaves_root models None sent = []
leaves_root models (Some m) sent = (from_parts models m (leaving models (tree_of models m) sent)).own

abbrev pub arrives_in_root : List ModelTree → Option CoupledTree → List (List Counts) → List Counts → List (List Counts)
arrives_in_root models None sent input = []
arrives_in_root models (Some m) sent input =
    arriving models (tree_of models m) (to_parts models m input (leaving models (tree_of models m) sent)) sent

-- what leaves at the root's output ports, from what the components send
abbrev pub leaves : FileTree → List (List Counts) → List Counts
leaves f sent = leaves_root f.models (root_of f) sent

-- what each component receives, from what the components send and what comes to the root's inputs from outside
abbrev pub arrives : FileTree → List (List Counts) → List Counts → List (List Counts)
arrives f sent input = arrives_in_root f.models (root_of f) sent input
