use Rattle.std.proofs.Common.{◌≡◌, ◌++◌, drop}
use Rattle.std.specs.List.{filter_map}
use Rattle.dv_check.specs.Cycles.{position_inside}
use Rattle.dv_check.specs.Tables.{value_for}
use Rattle.dv_check.proofs.positions.positions_inside.Given as goal

abbrev pub invariant-loop-part : goal.invariant-loop-part
invariant-loop-part l =
    l.inside.items ++ filter_map (position_inside (value_for l.positions)) (drop l.part-index l.parts)
    ≡ filter_map (position_inside (value_for l.positions)) l.parts
