use Rattle.std.proofs.Common.{◌+◌, ◌*◌, ◌++◌, ◌-◌, drop}
use Rattle.dv_tree.specs.Routing.{along_all}
use Rattle.dv_tree.specs.Nodes.{atomic_count, kept_nodes, leaving_nodes, nodes_by, nodes_to}
use Rattle.dv_tree.proofs.Travel.{Rises}
use Rattle.dv_tree.proofs.routing.+rise.Given as goal

abbrev pub decreases-rise : goal.decreases-rise
decreases-rise l = 3 * l.depth + 1

abbrev pub decreases-rise_parts : goal.decreases-rise_parts
decreases-rise_parts l = 3 * l.depth

abbrev pub decreases-rise_part : goal.decreases-rise_part
decreases-rise_part l = 3 * l.depth + 2

abbrev pub invariant-rise_parts-loop-part : goal.invariant-rise_parts-loop-part
invariant-rise_parts-loop-part l =
    let all = nodes_by (nodes_to (l.depth - 1) l.levels) l.levels l.resolved-items in
    let left = nodes_by (nodes_to (l.depth - 1) l.levels) l.levels (drop l.part l.resolved-items) in
    Rises l.level.of_parts left l.part l.rest l.arrived l.kept.items (drop (atomic_count all) l.initial.rest)
    (along_all l.level.of_parts (leaving_nodes all l.initial.rest) l.initial.arrived)
    (l.initial.kept.items ++ kept_nodes all l.initial.rest)
