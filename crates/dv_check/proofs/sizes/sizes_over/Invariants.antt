use Rattle.std.proofs.Common.{◌≡◌, ◌++◌, map, drop}
use Rattle.dv_check.specs.Sizes.{contents_by, size_by}
use Rattle.dv_check.proofs.sizes.sizes_over.Given as goal

abbrev pub invariant-loop-model : goal.invariant-loop-model
invariant-loop-model l =
    l.over.items ++ map (size_by l.sizes) (map contents_by (drop l.model-index l.contents))
    ≡ map (size_by l.sizes) (map contents_by l.contents)
