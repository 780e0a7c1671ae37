use Rattle.std.proofs.Common.{◌≡◌, ◌≢◌, ℕ, ◌<◌, vec_len}
use Rattle.dv_cycles.specs.Search.{IsSearch, mark_at}
use Rattle.dv_cycles.specs.declared.search.Mark.TheVariants.{New}
use Rattle.dv_cycles.proofs.components.strong_components.Given as goal

abbrev pub invariant-loop-root : goal.invariant-loop-root
invariant-loop-root l = record {
  search : IsSearch l.graph l.search;
  idle : vec_len l.search.segments ≡ 0;
  reached : (v : ℕ) → v < l.root → mark_at l.search.marks.items v ≢ New;
}
