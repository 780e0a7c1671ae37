use Rattle.std.proofs.Common.{◌≡◌, drop}
use Rattle.std.specs.List.{flat_map}
use Rattle.dv_check.specs.Findings.{with_refusals}
use Rattle.dv_check.specs.Rules.{known_by, start_refusals}
use Rattle.dv_check.proofs.declarations.Declarations.check_starts.Given as goal

abbrev pub invariant-loop-start : goal.invariant-loop-start
invariant-loop-start l =
    with_refusals l.found (flat_map (start_refusals (known_by l.self)) (drop l.start-index l.starts))
    ≡ with_refusals l.initial.found (flat_map (start_refusals (known_by l.self)) l.starts)
