use Rattle.std.proofs.Common.{◌≡◌, [], drop}
use Rattle.dv_eval.specs.Scope.{inputs_in, with_names}
use Rattle.dv_eval.proofs.scope.few_input_names.Given as goal

abbrev pub invariant-loop-declaration : goal.invariant-loop-declaration
invariant-loop-declaration l =
    with_names l.names.items (inputs_in (drop l.declaration-index l.declarations)) ≡ with_names [] (inputs_in l.declarations)
