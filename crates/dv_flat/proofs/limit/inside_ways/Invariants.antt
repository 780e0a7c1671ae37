use Rattle.std.proofs.Common.{◌≡◌, ◌+◌, ◌^◌, ◌<◌, drop}
use Rattle.dv_bag.specs.Bag.{capped}
use Rattle.dv_flat.specs.Ways.{part_ways}
use Rattle.dv_flat.proofs.Loops.{inside_from}
use Rattle.dv_flat.proofs.limit.inside_ways.Given as goal

abbrev pub invariant-loop-index : goal.invariant-loop-index
invariant-loop-index l =
    let all = part_ways l.below l.level.parts in
    record {
      kept : l.ways < 2 ^ 64;
      summed : capped (l.ways + inside_from all (drop l.index l.level.of_parts) (part_ways l.below (drop l.index l.part-items)))
          ≡ capped (inside_from all l.level.of_parts (part_ways l.below l.part-items));
    }
