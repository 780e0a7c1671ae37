use Rattle.std.proofs.Common.{◌≡◌, ◌≤◌, length, drop, reverse}
use Rattle.dv_conservative.specs.Events.{in_order}
use Rattle.dv_share.specs.Links.{deliveries_of}
use Rattle.dv_share.proofs.carry.unite.Given as goal

abbrev pub invariant-loop-index : goal.invariant-loop-index
invariant-loop-index l = record {
  within : l.index ≤ length l.sorted;
  all : reverse (deliveries_of l.united.items) ≡ in_order (deliveries_of (drop l.index l.sorted));
}

abbrev pub decreases-loop-index : goal.decreases-loop-index
decreases-loop-index l = l.index
