use Rattle.std.proofs.Common.{◌≡◌, [], drop}
use Rattle.dv_eval.specs.Scope.{state_variables_in, with_variables}
use Rattle.dv_eval.proofs.scope.many_variables.Given as goal

abbrev pub invariant-loop-declaration : goal.invariant-loop-declaration
invariant-loop-declaration l =
    with_variables l.variables.entries (state_variables_in (drop l.declaration-index l.declarations))
    ≡ with_variables [] (state_variables_in l.declarations)
