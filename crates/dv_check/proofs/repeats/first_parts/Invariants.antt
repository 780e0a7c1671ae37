use Rattle.std.proofs.Common.{◌≡◌, ◌++◌, drop}
use Rattle.dv_check.specs.Tables.{has}
use Rattle.dv_check.specs.Names.{first_parts, first_parts_after}
use Rattle.dv_check.proofs.repeats.first_parts.Given as goal

abbrev pub invariant-loop-part : goal.invariant-loop-part
invariant-loop-part l =
    l.firsts.items ++ first_parts_after (has l.seen) (drop l.part-index l.parts) ≡ first_parts l.parts
