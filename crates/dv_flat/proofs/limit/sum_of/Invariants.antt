use Rattle.std.proofs.Common.{◌≡◌, ◌+◌, ◌^◌, ◌<◌, drop, sum}
use Rattle.dv_bag.specs.Bag.{capped}
use Rattle.dv_flat.proofs.limit.sum_of.Given as goal

abbrev pub invariant-loop-more : goal.invariant-loop-more
invariant-loop-more l = record {
  kept : l.sum < 2 ^ 64;
  summed : capped (l.sum + sum (drop l.more-index l.ways)) ≡ capped (sum l.ways);
}
