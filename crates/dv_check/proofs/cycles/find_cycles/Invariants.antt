use Rattle.std.proofs.Common.{◌≡◌, map, drop}
use Rattle.dv_syntax.specs.Trees.{model_of}
use Rattle.dv_check.specs.Cycles.{cycle_refusals_from, same_number}
use Rattle.dv_check.specs.Findings.{with_refusals}
use Rattle.dv_check.specs.Tables.{value_for}
use Rattle.dv_check.proofs.cycles.find_cycles.Given as goal

abbrev pub invariant-loop-outer : goal.invariant-loop-outer
invariant-loop-outer l =
    let refusals = cycle_refusals_from (same_number l.numbers) (value_for l.positions) in
    with_refusals l.found (refusals l.outer (map model_of (drop l.outer l.models)))
    ≡ with_refusals l.initial.found (refusals 0 (map model_of l.models))
