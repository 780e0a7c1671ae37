use Rattle.std.proofs.Common.{◌≡◌, ◌++◌, ◌-◌, drop}
use Rattle.dv_tree.specs.Nodes.{components_in, nodes_by, nodes_to}
use Rattle.dv_tree.proofs.components.+add_components.Given as goal

abbrev pub decreases-add_components : goal.decreases-add_components
decreases-add_components l = l.depth

abbrev pub invariant-loop-part : goal.invariant-loop-part
invariant-loop-part l =
    l.components.items ++ components_in l.before
    (nodes_by (nodes_to (l.depth - 1) l.levels) l.levels (drop l.part-index l.part-items))
    ≡ l.initial.components.items ++ components_in l.before (nodes_by (nodes_to (l.depth - 1) l.levels) l.levels l.part-items)
