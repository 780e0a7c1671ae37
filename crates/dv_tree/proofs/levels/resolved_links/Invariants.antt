use Rattle.std.specs.List.{filter_map}
use Rattle.dv_tree.specs.Tables.{resolved_by, ports_at}
use Rattle.dv_tree.proofs.Gathered.{Gathers}
use Rattle.dv_tree.proofs.levels.resolved_links.Given as goal

abbrev pub invariant-loop-link : goal.invariant-loop-link
invariant-loop-link l =
    Gathers (filter_map
    (resolved_by l.ends.own_inputs l.ends.own_outputs l.ends.names (ports_at l.ends.inputs.now l.ends.parts.now)
    (ports_at l.ends.outputs.now l.ends.parts.now))) l.resolved.items l.link-index l.links
