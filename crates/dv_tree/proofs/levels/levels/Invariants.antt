use Rattle.std.proofs.Common.{map}
use Rattle.dv_tree.specs.Reached.{borrowed_models}
use Rattle.dv_tree.specs.Tables.{level_by_model}
use Rattle.dv_tree.proofs.Gathered.{Gathers}
use Rattle.dv_tree.proofs.levels.levels.Given as goal

abbrev pub invariant-loop-item : goal.invariant-loop-item
invariant-loop-item l =
    Gathers (λ items. map (level_by_model l.models l.inputs l.outputs) (borrowed_models items)) l.levels.items l.item-index l.items
