use Rattle.std.proofs.Common.{◌≡◌, drop}
use Rattle.dv_check.specs.Tables.{has_name}
use Rattle.dv_check.specs.Rules.{is_hold_missing}
use Rattle.dv_check.proofs.atomic.is_hold_missing.Given as goal

abbrev pub invariant-loop-phase : goal.invariant-loop-phase
invariant-loop-phase l = is_hold_missing (has_name l.held) (drop l.phase-index l.phases) ≡ is_hold_missing (has_name l.held) l.phases
