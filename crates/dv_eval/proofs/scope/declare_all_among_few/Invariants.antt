use Rattle.std.proofs.Common.{◌≡◌, drop}
use Rattle.dv_eval.specs.Scope.{with_names}
use Rattle.dv_eval.proofs.scope.declare_all_among_few.Given as goal

abbrev pub invariant-loop-name : goal.invariant-loop-name
invariant-loop-name l = with_names l.names.items (drop l.name-index l.declared) ≡ with_names l.fn.names.items l.declared
