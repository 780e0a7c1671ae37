use Rattle.std.proofs.Common.{map}
use Rattle.dv_syntax.specs.Trees.{model_of}
use Rattle.dv_tree.specs.Reached.{borrowed}
use Rattle.dv_tree.proofs.Gathered.{Gathers}
use Rattle.dv_flat.specs.Ways.{model_ways}
use Rattle.dv_flat.proofs.limit.ways_over.Given as goal

abbrev pub invariant-loop-index : goal.invariant-loop-index
invariant-loop-index l =
    Gathers (λ items. map (model_ways l.below (map model_of l.tree.reached)) (map model_of items)) l.over.items l.index
    (borrowed l.model-items)
