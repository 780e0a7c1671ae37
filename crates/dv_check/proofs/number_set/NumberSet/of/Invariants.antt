use Rattle.std.proofs.Common.{◌≡◌, take}
use Rattle.dv_check.specs.Tables.{has}
use Rattle.dv_check.specs.Names.{among}
use Rattle.dv_check.proofs.number_set.NumberSet.of.Given as goal

abbrev pub invariant-loop-name : goal.invariant-loop-name
invariant-loop-name l = has l.set ≡ among (take l.name-index l.names)
