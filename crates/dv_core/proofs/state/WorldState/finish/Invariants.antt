use Rattle.std.proofs.Common.{◌≡◌, length, map, vec_len}
use Rattle.std.specs.Vec.{vec_capacity}
use Rattle.dv_core.proofs.state.WorldState.finish.Given as goal

abbrev pub invariant-loop-process : goal.invariant-loop-process
invariant-loop-process g l = record {
  told : map g.P.Record.Record.told l.records.items ≡ map (λ x. (g.P.LogicalProcess.state x).part) l.yielded;
  clocks : l.clocks.items ≡ map (λ x. (g.P.LogicalProcess.state x).position.clock) l.yielded;
  room : (vec_len l.records ≡ length l.yielded) × (vec_len l.clocks ≡ length l.yielded);
  enough : (vec_capacity l.records ≡ length l.fn.self.processes.items) × (vec_capacity l.clocks ≡ length l.fn.self.processes.items);
}
