use Rattle.std.proofs.Common.{map}
use Rattle.dv_tree.specs.Reached.{borrowed_models}
use Rattle.dv_check.specs.Ports.{shown_inputs}
use Rattle.dv_tree.proofs.Gathered.{Gathers}
use Rattle.dv_tree.proofs.tables.inputs.Given as goal

abbrev pub invariant-loop-index : goal.invariant-loop-index
invariant-loop-index l = Gathers (λ models. map shown_inputs (borrowed_models models)) l.inputs.items l.index l.models
