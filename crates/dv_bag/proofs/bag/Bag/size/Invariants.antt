use Rattle.std.proofs.Common.{◌≡◌, ◌+◌, ◌^◌, ◌<◌, drop}
use Rattle.dv_bag.specs.Bag.{capped, size, total}
use Rattle.dv_bag.proofs.bag.Bag.size.Given as goal

abbrev pub invariant-loop-pair : goal.invariant-loop-pair
invariant-loop-pair l = (l.size < 2 ^ 64) × (capped (l.size + total (drop l.pair-index l.pair-items)) ≡ size l.pair-items)
