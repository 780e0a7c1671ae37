use Rattle.dv_tree.specs.Reached.{borrowed_models}
use Rattle.dv_tree.specs.Tables.{model_names}
use Rattle.dv_tree.proofs.Gathered.{Gathers}
use Rattle.dv_tree.proofs.tables.numbers_of_models.Given as goal

abbrev pub invariant-loop-model : goal.invariant-loop-model
invariant-loop-model l = Gathers (λ models. model_names (borrowed_models models)) l.numbers.items l.model-index l.models
