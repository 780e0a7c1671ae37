use Rattle.std.proofs.Common.{◌≤◌, ◌<◌}
use Rattle.std.specs.List.{AllAdjacentBelow}
use Rattle.dv_share.proofs.received.are_in_order.Given as goal

-- none of the first indices is before a smaller one
abbrev pub invariant-loop-index : goal.invariant-loop-index
invariant-loop-index l = record {
  one : 0 < l.index;
  adjacent : AllAdjacentBelow (λ x y. x ≤ y) l.indices l.index;
}
