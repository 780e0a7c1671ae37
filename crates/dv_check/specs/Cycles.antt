-- Models that contain themselves: the graph of the models of a file, and the parts on its cycles. Of the parts of one name only the first
-- counts.
use Rattle.std.specs.Prelude.{ℕ, ◌+◌, ◌==◌, Bool, List, [], ◌∷◌, ◌++◌, map, filter_map, slice_index_or, Option, Some, None}
use Rattle.std.specs.List.{flat_map, position}
use Rattle.dv_lex.specs.declared.error.Refusal.{Refusal}
use Rattle.dv_lex.specs.declared.error.RefusalNumber.TheVariants.{E15}
use Rattle.dv_syntax.specs.declared.tree.Part.{Part}
use Rattle.dv_syntax.specs.Trees.{ModelTree, AtomicModel, CoupledModel}
use Rattle.dv_check.specs.Names.{first_parts, name_of_model, refusal_if}
use Rattle.dv_cycles.specs.Ways.{has_way}

-- the position of the first model of a name among those of the file
unfoldable pub position_of : List ModelTree → ℕ → Option ℕ
position_of models number = position (λ m. (name_of_model m).number == number) models

-- the position of the model of a part
abbrev pub position_inside : (ℕ → Option ℕ) → Part → Option ℕ
position_inside position p = position p.model.number

-- the positions of the models of a model's parts that count, by the positions of the names of models; an atomic model has no parts
abbrev pub positions_inside : (ℕ → Option ℕ) → ModelTree → List ℕ
positions_inside position (AtomicModel m) = []
positions_inside position (CoupledModel m) = filter_map (position_inside position) (first_parts m.parts)

abbrev pub models_inside : List ModelTree → ModelTree → List ℕ
models_inside models m = positions_inside (position_of models) m

-- the graph of the models of a file: each leads to the models of its parts that count
unfoldable pub containment : List ModelTree → List (List ℕ)
containment models = map (models_inside models) models

-- whether the model at one position leads to the model at another
abbrev pub Test : Type 0
Test = ℕ → ℕ → Bool

-- the refusal of a part of the model at a position: its model leads back
abbrev pub cycle_refusal : Test → ℕ → Option ℕ → ℕ → List Refusal
cycle_refusal leads outer None offset = []
cycle_refusal leads outer (Some inner) offset = refusal_if (leads inner outer) E15 offset

abbrev pub part_cycle_refusals : Test → (ℕ → Option ℕ) → ℕ → Part → List Refusal
part_cycle_refusals leads position outer p = cycle_refusal leads outer (position_inside position p) p.model.offset

abbrev pub model_cycle_refusals : Test → (ℕ → Option ℕ) → ℕ → ModelTree → List Refusal
model_cycle_refusals leads position outer (AtomicModel m) = []
model_cycle_refusals leads position outer (CoupledModel m) =
    flat_map (part_cycle_refusals leads position outer) (first_parts m.parts)

-- the refusals of the models from a position on
abbrev pub cycle_refusals_from : Test → (ℕ → Option ℕ) → ℕ → List ModelTree → List Refusal
cycle_refusals_from leads position outer [] = []
cycle_refusals_from leads position outer (m ∷ models) =
    model_cycle_refusals leads position outer m ++ cycle_refusals_from leads position (outer + 1) models

-- whether two models have the same number, by their positions
abbrev pub same_number : List ℕ → Test
same_number numbers inner outer = slice_index_or numbers inner 0 == slice_index_or numbers outer 0

-- the refusals of all parts of a file that count and are on a cycle
unfoldable pub cycle_refusals : List ModelTree → List Refusal
cycle_refusals models = cycle_refusals_from (has_way (containment models)) (position_of models) 0 models
