use Rattle.std.proofs.Common.{◌≡◌, take, map}
use Rattle.dv_eval.specs.Scope.{start_datum}
use Rattle.dv_eval.proofs.model.start_data.Given as goal

abbrev pub invariant-loop-domain : goal.invariant-loop-domain
invariant-loop-domain l = l.variables ≡ map start_datum (take l.domain-index l.domain-items)
