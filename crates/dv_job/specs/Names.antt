-- The names that the plan of a text prints.
use Rattle.std.specs.Prelude.{ℕ, List, [], length, map, Option, Some, None, slice_get}
use Rattle.dv_plan.specs.Texts.{PlanNames}
use Rattle.dv_eval.specs.Scope.{Scope, scope_of}
use Rattle.dv_syntax.specs.Trees.{FileTree}
use Rattle.dv_tree.specs.Instances.{Instance, instances, root_inputs, root_outputs}
use Rattle.dv_tree.specs.Paths.{name_at, texts_of, with_dots}
use Rattle.dv_tree.specs.Tables.{Source}

-- the ports of a component; a number that is no component has none
abbrev pub inputs_if : Option Scope → List ℕ
inputs_if None = []
inputs_if (Some scope) = scope.inputs

abbrev pub outputs_if : Option Scope → List ℕ
outputs_if None = []
outputs_if (Some scope) = scope.outputs

abbrev pub scope_at : FileTree → ℕ → Option Scope
scope_at f k = slice_get (map (λ (i : Instance). scope_of i.model) (instances f)) k

-- what a plan prints of a text with these names
abbrev pub plan_names : List (List ℕ) → FileTree → PlanNames
plan_names names f = record {
  components = length (instances f);
  path = λ k. name_at (map (λ (i : Instance). with_dots (texts_of names i.path)) (instances f)) k;
  input = λ k port. name_at (texts_of names (inputs_if (scope_at f k))) port;
  output = λ k port. name_at (texts_of names (outputs_if (scope_at f k))) port;
  root_input = λ port. name_at (texts_of names (root_inputs f)) port;
  root_output = λ port. name_at (texts_of names (root_outputs f)) port;
}
