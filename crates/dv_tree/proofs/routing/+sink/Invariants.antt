use Rattle.std.proofs.Common.{◌+◌, ◌*◌, ◌++◌, ◌-◌, drop}
use Rattle.std.specs.Vec.Iter.{into_iter_items}
use Rattle.dv_tree.specs.Nodes.{arriving_nodes, coupled_count, nodes_by, nodes_to}
use Rattle.dv_tree.proofs.Travel.{Sinks}
use Rattle.dv_tree.proofs.routing.+sink.Given as goal

abbrev pub decreases-sink : goal.decreases-sink
decreases-sink l = 3 * l.depth + 1

abbrev pub decreases-sink_parts : goal.decreases-sink_parts
decreases-sink_parts l = 3 * l.depth

abbrev pub decreases-sink_part : goal.decreases-sink_part
decreases-sink_part l = 3 * l.depth + 2

abbrev pub invariant-sink_parts-loop-part : goal.invariant-sink_parts-loop-part
invariant-sink_parts-loop-part l =
    let all = nodes_by (nodes_to (l.depth - 1) l.levels) l.levels l.part-items in
    let left = nodes_by (nodes_to (l.depth - 1) l.levels) l.levels (drop l.part-index l.part-items) in
    Sinks left (into_iter_items l.parts) (into_iter_items l.kept) l.received.items
    (drop (coupled_count all) (into_iter_items l.initial.kept))
    (l.initial.received.items ++ arriving_nodes all (into_iter_items l.initial.parts) (into_iter_items l.initial.kept))
