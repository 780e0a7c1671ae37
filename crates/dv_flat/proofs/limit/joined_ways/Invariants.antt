use Rattle.std.proofs.Common.{◌≡◌, ◌+◌, ◌^◌, ◌<◌, drop}
use Rattle.std.specs.List.{sum_by}
use Rattle.dv_bag.specs.Bag.{capped}
use Rattle.dv_flat.specs.Ways.{joined_ways, part_ways}
use Rattle.dv_flat.proofs.limit.joined_ways.Given as goal

abbrev pub invariant-loop-coupling : goal.invariant-loop-coupling
invariant-loop-coupling l =
    let joined = joined_ways (part_ways l.below l.parts) l.outputs in
    record {
      kept : l.ways < 2 ^ 64;
      summed : capped (l.ways + sum_by joined (drop l.coupling-index l.couplings)) ≡ capped (sum_by joined l.couplings);
    }
