use Rattle.std.proofs.Common.{◌≡◌, ◌-◌, ◌++◌, length}
use Rattle.std.specs.List.{range_with_len}
use Rattle.dv_syntax.specs.Trees.{file_of}
use Rattle.dv_tree.specs.Instances.{root_inputs}
use Rattle.dv_flat.specs.Links.{root_ports}
use Rattle.dv_flat.proofs.ports.root_inputs.Given as goal

abbrev pub invariant-loop-port : goal.invariant-loop-port
invariant-loop-port l =
    l.ports.items ++ range_with_len l.port (length (root_inputs (file_of l.tree.file)) - l.port)
    ≡ root_ports (root_inputs (file_of l.tree.file))
