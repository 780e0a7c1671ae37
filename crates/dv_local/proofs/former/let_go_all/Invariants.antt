use Rattle.std.proofs.Common.{◌≡◌, length}
use Rattle.dv_local.specs.Orders.{AreCounted}
use Rattle.dv_local.proofs.former.let_go_all.Given as goal

abbrev pub invariant-loop-list : goal.invariant-loop-list
invariant-loop-list l = (length l.copies.items ≡ length l.fn.copies.items) × AreCounted l.order.items l.copies.items

abbrev pub decreases-loop-list : goal.decreases-loop-list
decreases-loop-list l = length l.order.items
