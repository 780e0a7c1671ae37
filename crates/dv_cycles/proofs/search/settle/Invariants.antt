use Rattle.std.proofs.Common.{◌≡◌, ℕ, ◌≤◌, take, vec_len}
use Rattle.dv_cycles.specs.Search.{mark_at, new_count, settled}
use Rattle.dv_cycles.proofs.search.settle.Given as goal

abbrev pub invariant-loop-path : goal.invariant-loop-path
invariant-loop-path l = record {
  reached : l.first ≤ vec_len l.path;
  shorter : vec_len l.path ≤ vec_len l.initial.path;
  kept : l.path.items ≡ take (vec_len l.path) l.initial.path.items;
  marks : (node : ℕ) → mark_at l.marks.items node ≡ settled l.component (vec_len l.path) (mark_at l.initial.marks.items node);
  nodes : vec_len l.marks ≡ vec_len l.initial.marks;
  new_count : new_count l.marks.items ≡ new_count l.initial.marks.items;
}

abbrev pub decreases-loop-path : goal.decreases-loop-path
decreases-loop-path l = vec_len l.path
