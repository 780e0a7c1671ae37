use Rattle.std.proofs.Common.{map}
use Rattle.dv_syntax.specs.Trees.{model_of}
use Rattle.dv_tree.specs.Tables.{model_names}
use Rattle.dv_tree.proofs.Gathered.{Gathers}
use Rattle.dv_tree.proofs.tables.model_numbers.Given as goal

abbrev pub invariant-loop-model : goal.invariant-loop-model
invariant-loop-model l = Gathers (λ models. model_names (map model_of models)) l.numbers.items l.model-index l.models
