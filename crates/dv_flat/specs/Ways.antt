-- How many ways lead through models, counted from the ways through the models of their parts, without a tree. A number past the greatest
-- that is kept counts as that one.
use Rattle.std.specs.Prelude.{ℕ, zero, suc, ◌+◌, ◌*◌, List, [], ◌∷◌, length, map, replicate, fold, sum, slice_set}
use Rattle.std.specs.Prelude.{slice_index_or, Option, Some, None}
use Rattle.std.specs.List.{sum_by}
use Rattle.dv_syntax.specs.Trees.{ModelTree, AtomicModel, CoupledModel}
use Rattle.dv_bag.specs.Bag.{capped}
use Rattle.dv_eval.specs.Scope.{Scope}
use Rattle.dv_tree.specs.Tables.{LevelTable, level_of_model, scope_of_model}
use Rattle.dv_tree.specs.declared.couplings.Target.{Target}
use Rattle.dv_tree.specs.declared.couplings.Target.TheVariants.{Own, OfPart}
use Rattle.dv_tree.specs.declared.couplings.Coupling.{Coupling}
use Rattle.dv_tree.specs.declared.resolved_parts.ResolvedPart.{ResolvedPart}

-- the ways of a model: from each of its input ports to components inside, to each of its output ports from components inside, and those
-- that begin and end inside
pub record WayCounts : Type 0 where
  pub inputs : List ℕ
  pub outputs : List ℕ
  pub inside : ℕ

-- a model without ports
abbrev pub no_ways : WayCounts
no_ways = record { inputs = []; outputs = []; inside = 0 }

-- a component, by its scope: one way from each input port and one to each output port
abbrev pub component_ways : Scope → WayCounts
component_ways s = record { inputs = replicate (length s.inputs) 1; outputs = replicate (length s.outputs) 1; inside = 0 }

-- the ways of a port; none past the last port
abbrev pub at_port : List ℕ → ℕ → ℕ
at_port ways port = slice_index_or ways port 0

-- more ways at a port
abbrev pub more_at : ℕ → ℕ → List ℕ → List ℕ
more_at port more ways = slice_set ways port (capped (at_port ways port + more))

-- the ways that lead on from the target of a coupling to the inside: those of an input of a part
abbrev pub ways_from : List WayCounts → Target → ℕ
ways_from parts (Own port) = 0
ways_from parts (OfPart part port) = at_port (slice_index_or parts part no_ways).inputs port

-- with a coupling from an input of the model itself
abbrev pub with_input : List WayCounts → List ℕ → Coupling → List ℕ
with_input parts ways c = more_at c.port (ways_from parts c.target) ways

-- the ways from each input of a coupled model
abbrev pub input_ways : ℕ → List WayCounts → List Coupling → List ℕ
input_ways count parts couplings = fold (with_input parts) (replicate count 0) couplings

-- more ways at the target of a coupling, if that is an output of the model itself
abbrev pub more_out : Target → ℕ → List ℕ → List ℕ
more_out (Own port) more ways = more_at port more ways
more_out (OfPart part port) more ways = ways

-- with a coupling from an output of a part
abbrev pub with_output : List ℕ → List ℕ → Coupling → List ℕ
with_output outputs ways c = more_out c.target (at_port outputs c.port) ways

-- with the couplings of each part, in the order of the parts
abbrev pub output_ways : List (List Coupling) → List WayCounts → List ℕ → List ℕ
output_ways [] parts ways = ways
output_ways (cs ∷ couplings) [] ways = ways
output_ways (cs ∷ couplings) (p ∷ parts) ways = output_ways couplings parts (fold (with_output p.outputs) ways cs)

-- the ways through a coupling between two parts: each that leads to its source continues by each that leads from its target
abbrev pub joined_ways : List WayCounts → List ℕ → Coupling → ℕ
joined_ways parts outputs c = at_port outputs c.port * ways_from parts c.target

-- those through the couplings of each part
abbrev pub crossing_ways : List WayCounts → List (List Coupling) → List WayCounts → ℕ
crossing_ways all [] parts = 0
crossing_ways all (cs ∷ couplings) [] = 0
crossing_ways all (cs ∷ couplings) (p ∷ parts) = sum_by (joined_ways all p.outputs) cs + crossing_ways all couplings parts

-- the ways that begin and end inside one part, or lead from one to another
abbrev pub inside_ways : List (List Coupling) → List WayCounts → ℕ
inside_ways couplings parts = sum_by (λ (p : WayCounts). p.inside) parts + crossing_ways parts couplings parts

-- a coupled model with a number of inputs, by its table and the ways of its parts
abbrev pub coupled_ways : ℕ → LevelTable → List WayCounts → WayCounts
coupled_ways count l parts = record {
  inputs = input_ways count parts l.of_inputs;
  outputs = output_ways l.of_parts parts (replicate l.outputs 0);
  inside = capped (inside_ways l.of_parts parts);
}

-- the ways of parts, by those of the models
abbrev pub part_ways : List WayCounts → List ResolvedPart → List WayCounts
part_ways below resolved = map (λ (e : ResolvedPart). slice_index_or below e.model no_ways) resolved

-- the number of input ports that a coupled model declares
abbrev pub own_inputs : ModelTree → ℕ
own_inputs (AtomicModel m) = 0
own_inputs (CoupledModel m) = length m.inputs

-- the ways of a model by its table, if it has one, and by those of the models with one level less
abbrev pub ways_by : ℕ → Scope → Option LevelTable → List WayCounts → WayCounts
ways_by inputs scope None below = component_ways scope
ways_by inputs scope (Some l) below = coupled_ways inputs l (part_ways below l.parts)

-- the same for a model of a text
abbrev pub model_ways : List WayCounts → List ModelTree → ModelTree → WayCounts
model_ways below models m = ways_by (own_inputs m) (scope_of_model m) (level_of_model models m) below

-- the ways of all models
abbrev pub ways_over : List WayCounts → List ModelTree → List WayCounts
ways_over below models = map (model_ways below models) models

-- the ways of the models, down to fewer levels than this
abbrev pub ways_below : ℕ → List ModelTree → List WayCounts
ways_below zero models = []
ways_below (suc levels) models = ways_over (ways_below levels models) models

-- the ways of a model from its inputs and to its outputs, and those inside
abbrev pub all_ways : WayCounts → ℕ
all_ways w = (sum w.inputs + sum w.outputs) + w.inside
