use Rattle.std.proofs.Common.{take}
use Rattle.dv_bag.specs.Numbers.{HoldsNumbers}
use Rattle.dv_bag.proofs.state.Variables.holds_numbers.Given as goal

abbrev pub invariant-loop-datum : goal.invariant-loop-datum
invariant-loop-datum l = HoldsNumbers (take l.datum-index l.datum-items)
