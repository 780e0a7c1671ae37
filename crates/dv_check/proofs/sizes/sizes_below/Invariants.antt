use Rattle.std.proofs.Common.{◌≡◌, map}
use Rattle.dv_check.specs.Sizes.{contents_by, sizes_below}
use Rattle.dv_check.proofs.sizes.sizes_below.Given as goal

abbrev pub invariant-loop-level : goal.invariant-loop-level
invariant-loop-level l = l.sizes.items ≡ sizes_below l._level (map contents_by l.contents)
