use Rattle.std.proofs.Common.{◌≡◌, ℕ, ◌<◌, ◌≤◌, take, vec_len}
use Rattle.dv_cycles.specs.Search.{segment_at}
use Rattle.dv_cycles.proofs.search.join.Given as goal

abbrev pub invariant-loop-segments : goal.invariant-loop-segments
invariant-loop-segments l = record {
  shorter : vec_len l.segments ≤ vec_len l.initial.segments;
  kept : l.segments.items ≡ take (vec_len l.segments) l.initial.segments.items;
  joined : (i : ℕ) → vec_len l.segments ≤ i → i < vec_len l.initial.segments
      → l.position < (segment_at l.initial.segments.items i).first_node;
}

abbrev pub decreases-loop-segments : goal.decreases-loop-segments
decreases-loop-segments l = vec_len l.segments
