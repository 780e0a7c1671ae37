use Rattle.std.proofs.Common.{map}
use Rattle.dv_tree.specs.Reached.{borrowed_models}
use Rattle.dv_tree.specs.Tables.{scope_of_model}
use Rattle.dv_tree.proofs.Gathered.{Gathers}
use Rattle.dv_tree.proofs.tables.scopes.Given as goal

abbrev pub invariant-loop-model : goal.invariant-loop-model
invariant-loop-model l = Gathers (λ models. map scope_of_model (borrowed_models models)) l.scopes.items l.model-index l.models
