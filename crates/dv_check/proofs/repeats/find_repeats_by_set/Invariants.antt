use Rattle.std.proofs.Common.{◌≡◌, drop}
use Rattle.dv_check.specs.Findings.{with_refusals}
use Rattle.dv_check.specs.Tables.{has}
use Rattle.dv_check.specs.Names.{repeats, repeats_after}
use Rattle.dv_check.proofs.repeats.find_repeats_by_set.Given as goal

abbrev pub invariant-loop-name : goal.invariant-loop-name
invariant-loop-name l =
    with_refusals l.found (repeats_after (has l.seen) l.number (drop l.name-index l.names))
    ≡ with_refusals l.initial.found (repeats l.number l.names)
