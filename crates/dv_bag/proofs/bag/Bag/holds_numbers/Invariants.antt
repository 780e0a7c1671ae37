use Rattle.std.proofs.Common.{take}
use Rattle.dv_bag.specs.Numbers.{IsBagOfNumbers}
use Rattle.dv_bag.proofs.bag.Bag.holds_numbers.Given as goal

abbrev pub invariant-loop-pair : goal.invariant-loop-pair
invariant-loop-pair l = IsBagOfNumbers (take l.pair-index l.pair-items)
