use Rattle.std.proofs.Common.{◌≡◌, drop}
use Rattle.std.specs.List.{flat_map}
use Rattle.dv_check.specs.Findings.{with_refusals}
use Rattle.dv_check.specs.Couplings.{part_refusals, interior_by}
use Rattle.dv_check.proofs.coupled.check_parts.Given as goal

abbrev pub invariant-loop-part : goal.invariant-loop-part
invariant-loop-part l =
    with_refusals l.found (flat_map (part_refusals (interior_by l.interior)) (drop l.part-index l.parts))
    ≡ with_refusals l.initial.found (flat_map (part_refusals (interior_by l.interior)) l.parts)
