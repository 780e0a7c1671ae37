use Rattle.std.proofs.Common.{map}
use Rattle.dv_tree.specs.Reached.{borrowed_models}
use Rattle.dv_check.specs.Ports.{shown_outputs}
use Rattle.dv_tree.proofs.Gathered.{Gathers}
use Rattle.dv_tree.proofs.tables.outputs.Given as goal

abbrev pub invariant-loop-index : goal.invariant-loop-index
invariant-loop-index l = Gathers (λ models. map shown_outputs (borrowed_models models)) l.outputs.items l.index l.models
