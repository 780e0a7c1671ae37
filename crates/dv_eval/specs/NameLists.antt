-- The names and the variables that an atomic model declares.
use Rattle.std.specs.Prelude.{ℕ, List}
use Rattle.dv_eval.specs.declared.name_list.NameList.{NameList}
use Rattle.dv_eval.specs.declared.name_list.NameList.TheVariants.{Few, Many}
use Rattle.dv_eval.specs.declared.scope.Domain.{Domain}
use Rattle.dv_eval.specs.declared.variable_list.VariableList.{VariableList}
use Rattle.dv_eval.specs.declared.variable_list.VariableList.TheVariants as variables

-- a short list, or a table
abbrev pub names_in : NameList → List ℕ
names_in (Few names) = names.items
names_in (Many names) = names.keys

-- a short list, or a table
abbrev pub variables_in : VariableList → List (ℕ × Domain)
variables_in (variables.Few few) = few
variables_in (variables.Many table) = table.entries
