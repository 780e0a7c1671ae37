use Rattle.std.proofs.Common.{◌≡◌, take}
use Rattle.dv_check.proofs.sizes.are_same.Given as goal

abbrev pub invariant-loop-index : goal.invariant-loop-index
invariant-loop-index l = take l.index l.left ≡ take l.index l.right
