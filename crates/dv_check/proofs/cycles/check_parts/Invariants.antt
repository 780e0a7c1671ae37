use Rattle.std.proofs.Common.{◌≡◌, drop}
use Rattle.std.specs.List.{flat_map}
use Rattle.dv_check.specs.Cycles.{part_cycle_refusals, same_number}
use Rattle.dv_check.specs.Findings.{with_refusals}
use Rattle.dv_check.specs.Tables.{value_for}
use Rattle.dv_check.proofs.cycles.check_parts.Given as goal

abbrev pub invariant-loop-part : goal.invariant-loop-part
invariant-loop-part l =
    let refusals = part_cycle_refusals (same_number l.numbers) (value_for l.positions) l.outer in
    with_refusals l.found (flat_map refusals (drop l.part-index l.parts)) ≡ with_refusals l.initial.found (flat_map refusals l.parts)
