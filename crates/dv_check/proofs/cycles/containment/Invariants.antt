use Rattle.std.proofs.Common.{◌≡◌, ◌++◌, map, drop}
use Rattle.dv_syntax.specs.Trees.{model_of}
use Rattle.dv_check.specs.Cycles.{positions_inside}
use Rattle.dv_check.specs.Tables.{value_for}
use Rattle.dv_check.proofs.cycles.containment.Given as goal

abbrev pub invariant-loop-model : goal.invariant-loop-model
invariant-loop-model l =
    l.graph ++ map (positions_inside (value_for l.positions)) (map model_of (drop l.model-index l.models))
    ≡ map (positions_inside (value_for l.positions)) (map model_of l.models)
