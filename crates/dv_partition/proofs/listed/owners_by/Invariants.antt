use Rattle.std.proofs.Common.{◌≡◌, ◌++◌, drop, map, string_bytes}
use Rattle.std.specs.Option.{option_map}
use Rattle.dv_partition.specs.Listed.{each}
use Rattle.dv_partition.specs.Steps.{number_at}
use Rattle.dv_partition.proofs.listed.owners_by.Given as goal

abbrev pub invariant-loop-path : goal.invariant-loop-path
invariant-loop-path l =
    each (number_at l.listed) (map string_bytes l.paths)
    ≡ option_map (λ rest. l.owners.items ++ rest) (each (number_at l.listed) (map string_bytes (drop l.path-index l.paths)))
