use Rattle.std.proofs.Common.{◌≡◌, drop}
use Rattle.std.specs.List.{fold}
use Rattle.dv_check.specs.Sizes.{alone, with_part_at}
use Rattle.dv_check.proofs.sizes.size_with_parts.Given as goal

abbrev pub invariant-loop-position : goal.invariant-loop-position
invariant-loop-position l =
    fold (with_part_at l.sizes) l.size (drop l.position-index l.inside) ≡ fold (with_part_at l.sizes) alone l.inside
