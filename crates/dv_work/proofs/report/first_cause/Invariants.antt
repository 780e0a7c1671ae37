use Rattle.std.proofs.Common.{◌≡◌}
use Rattle.std.specs.Vec.Iter.{into_iter_items}
use Rattle.dv_work.specs.Endings.{first_cause}
use Rattle.dv_work.proofs.report.first_cause.Given as goal

abbrev pub invariant-loop-halt : goal.invariant-loop-halt
invariant-loop-halt g l = first_cause l.fn.halts.items ≡ first_cause (into_iter_items l.halt-iterator)
