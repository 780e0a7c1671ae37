use Rattle.std.proofs.Common.{◌≡◌, [], drop, map, replicate}
use Rattle.std.specs.Prelude.{fold}
use Rattle.dv_syntax.specs.Trees.{file_of}
use Rattle.dv_tree.specs.Instances.{instances}
use Rattle.dv_flat.specs.Ends.{input_count, input_ports, ports_from}
use Rattle.dv_flat.specs.Probes.{with_input}
use Rattle.dv_flat.proofs.arrivals.arrivals_at_inputs.Given as goal

-- the arrivals so far, and those at the ports of the components from here on
abbrev pub invariant-loop-component : goal.invariant-loop-component
invariant-loop-component l =
    fold (with_input l.received) (map (λ list. list.items) l.lists.items)
    (ports_from l.component input_count (drop l.component (instances (file_of l.tree.file))))
    ≡ fold (with_input l.received) (replicate l.probes []) (input_ports (file_of l.tree.file))
