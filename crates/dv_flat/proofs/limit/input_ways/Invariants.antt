use Rattle.std.proofs.Common.{◌≡◌, drop, replicate}
use Rattle.std.specs.List.{fold}
use Rattle.dv_flat.specs.Ways.{part_ways, with_input}
use Rattle.dv_flat.proofs.limit.input_ways.Given as goal

abbrev pub invariant-loop-coupling : goal.invariant-loop-coupling
invariant-loop-coupling l =
    let parts = part_ways l.below l.level.parts in
    fold (with_input parts) l.ways.items (drop l.coupling-index l.coupling-items)
    ≡ fold (with_input parts) (replicate l.inputs 0) l.coupling-items
