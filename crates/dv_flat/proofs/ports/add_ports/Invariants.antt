use Rattle.std.proofs.Common.{◌≡◌, ◌++◌, map}
use Rattle.std.specs.List.{range_with_len}
use Rattle.dv_flat.specs.Ends.{port_at}
use Rattle.dv_flat.proofs.ports.add_ports.Given as goal

abbrev pub invariant-loop-port : goal.invariant-loop-port
invariant-loop-port l = l.ports.items ≡ l.fn.ports.items ++ map (port_at l.component) (range_with_len 0 l.port)
