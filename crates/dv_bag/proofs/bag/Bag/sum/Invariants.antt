use Rattle.std.proofs.Common.{◌≡◌, ◌*◌, ◌^◌, drop, pos, neg_ℤ, ◌+ℤ◌, ◌≤ℤ◌}
use Rattle.dv_bag.specs.Bag.{sum_of, total}
use Rattle.dv_bag.proofs.bag.Bag.sum.Given as goal

abbrev pub invariant-loop-pair : goal.invariant-loop-pair
invariant-loop-pair l = record {
  so_far : l.sum +ℤ sum_of (drop l.pair-index l.pair-items) ≡ sum_of l.pair-items;
  low : (neg_ℤ (pos (2 ^ 63 * total l.pair-items)) +ℤ pos (2 ^ 63 * total (drop l.pair-index l.pair-items))) ≤ℤ l.sum;
  high : (l.sum +ℤ pos (2 ^ 63 * total (drop l.pair-index l.pair-items))) ≤ℤ pos (2 ^ 63 * total l.pair-items);
}
