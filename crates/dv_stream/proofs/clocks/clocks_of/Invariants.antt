use Rattle.std.proofs.Common.{◌≡◌, map, take}
use Rattle.dv_stream.proofs.clocks.clocks_of.Given as goal

abbrev pub invariant-loop-process : goal.invariant-loop-process
invariant-loop-process g l =
    l.clocks.items ≡ map (λ x. (g.P.LogicalProcess.state x).position.clock) (take l.process-index l.fn.processes)
