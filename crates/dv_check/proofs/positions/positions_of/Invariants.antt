use Rattle.std.proofs.Common.{◌≡◌, map, take}
use Rattle.dv_syntax.specs.Trees.{model_of}
use Rattle.dv_check.specs.Cycles.{position_of}
use Rattle.dv_check.specs.Tables.{value_for}
use Rattle.dv_check.proofs.positions.positions_of.Given as goal

abbrev pub invariant-loop-index : goal.invariant-loop-index
invariant-loop-index l = value_for l.positions ≡ position_of (map model_of (take l.index l.models))
