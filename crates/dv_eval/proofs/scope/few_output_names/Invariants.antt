use Rattle.std.proofs.Common.{◌≡◌, [], drop}
use Rattle.dv_eval.specs.Scope.{outputs_in, with_names}
use Rattle.dv_eval.proofs.scope.few_output_names.Given as goal

abbrev pub invariant-loop-declaration : goal.invariant-loop-declaration
invariant-loop-declaration l =
    with_names l.names.items (outputs_in (drop l.declaration-index l.declarations)) ≡ with_names [] (outputs_in l.declarations)
