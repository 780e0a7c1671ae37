use Rattle.std.proofs.Common.{◌≡◌, ◌++◌, drop}
use Rattle.dv_syntax.specs.Trees.{file_of}
use Rattle.dv_tree.specs.Instances.{instances}
use Rattle.dv_flat.specs.Ends.{output_count, output_ports, ports_from}
use Rattle.dv_flat.proofs.ports.output_ports.Given as goal

abbrev pub invariant-loop-component : goal.invariant-loop-component
invariant-loop-component l =
    l.ports.items ++ ports_from l.component output_count (drop l.component (instances (file_of l.tree.file)))
    ≡ output_ports (file_of l.tree.file)
