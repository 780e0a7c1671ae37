use Rattle.std.proofs.Common.{◌≡◌, map}
use Rattle.dv_syntax.specs.Trees.{model_of}
use Rattle.dv_flat.specs.Ways.{ways_below}
use Rattle.dv_flat.proofs.limit.ways_below.Given as goal

abbrev pub invariant-loop-level : goal.invariant-loop-level
invariant-loop-level l = l.ways.items ≡ ways_below l._level (map model_of l.tree.reached)
