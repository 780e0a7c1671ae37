use Rattle.std.proofs.Common.{◌≡◌, [], map, replicate, vec_len}
use Rattle.std.specs.Vec.{vec_capacity}
use Rattle.dv_proc.specs.Packets.{meant_packets}
use Rattle.dv_core.proofs.state.empty_queues.Given as goal

abbrev pub invariant-loop-made : goal.invariant-loop-made
invariant-loop-made l = record {
  queues : map (λ q. meant_packets q.items) l.queues.items ≡ replicate l._made [];
  long : vec_len l.queues ≡ l._made;
  room : vec_capacity l.queues ≡ l.count;
}
