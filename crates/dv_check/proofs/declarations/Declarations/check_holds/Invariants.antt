use Rattle.std.proofs.Common.{◌≡◌, map, drop}
use Rattle.std.specs.List.{flat_map}
use Rattle.dv_syntax.specs.Trees.{hold_of}
use Rattle.dv_check.specs.Findings.{with_refusals}
use Rattle.dv_check.specs.Rules.{known_by, hold_refusals}
use Rattle.dv_check.proofs.declarations.Declarations.check_holds.Given as goal

abbrev pub invariant-loop-hold : goal.invariant-loop-hold
invariant-loop-hold l =
    with_refusals l.found (flat_map (hold_refusals (known_by l.self)) (map hold_of (drop l.hold-index l.holds)))
    ≡ with_refusals l.initial.found (flat_map (hold_refusals (known_by l.self)) (map hold_of l.holds))
