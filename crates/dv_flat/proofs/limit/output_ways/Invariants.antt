use Rattle.std.proofs.Common.{◌≡◌, drop, replicate}
use Rattle.dv_flat.specs.Ways.{output_ways, part_ways}
use Rattle.dv_flat.proofs.limit.output_ways.Given as goal

abbrev pub invariant-loop-index : goal.invariant-loop-index
invariant-loop-index l =
    output_ways (drop l.index l.level.of_parts) (part_ways l.below (drop l.index l.part-items)) l.ways.items
    ≡ output_ways l.level.of_parts (part_ways l.below l.part-items) (replicate l.level.outputs 0)
