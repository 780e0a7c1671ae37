use Rattle.std.proofs.Common.{◌≡◌, take}
use Rattle.dv_flat.proofs.limit.are_same.Given as goal

abbrev pub invariant-loop-place : goal.invariant-loop-place
invariant-loop-place l = take l.place l.left ≡ take l.place l.right
