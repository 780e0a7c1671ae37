use Rattle.std.specs.List.{filter_map}
use Rattle.dv_tree.specs.Tables.{resolved_part}
use Rattle.dv_tree.proofs.Gathered.{Gathers}
use Rattle.dv_tree.proofs.resolved_parts.resolved_parts.Given as goal

abbrev pub invariant-loop-part : goal.invariant-loop-part
invariant-loop-part l = Gathers (filter_map (resolved_part l.models)) l.resolved.items l.part-index l.parts
