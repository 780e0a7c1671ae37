use Rattle.std.proofs.Common.{subst}
use Rattle.dv_syntax.specs.Trees.{atomic_of}
use Rattle.dv_eval.specs.Scope.{scope_of, start_state}
use Rattle.dv_check.specs.Holds.{NeverFaults}
use Rattle.dv_check.proofs.Holds.{no_fault}
use Rattle.dv_check.proofs.atomic.is_start_fault.Goals as goal

pub returns-then-are_constant : goal.returns-then-are_constant
returns-then-are_constant c =
    let m = atomic_of c.args.model.now in
    let never = subst NeverFaults c.phase_ticks.ensures (c.are_constant.ensures c.if-are_constant.true) in
    no_fault _ _ (never (scope_of m) (start_state m))
