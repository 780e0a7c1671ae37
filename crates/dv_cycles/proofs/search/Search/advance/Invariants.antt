use Rattle.std.proofs.Common.{◌+◌, ◌≤◌, vec_len}
use Rattle.dv_cycles.specs.Search.{IsSearch, NoneAnew, new_count}
use Rattle.dv_cycles.proofs.search.Search.advance.Given as goal

abbrev pub invariant-loop-self : goal.invariant-loop-self
invariant-loop-self l = record {
  search : IsSearch l.graph l.self;
  none_anew : NoneAnew l.initial.self.marks.items l.self.marks.items;
  fewer : new_count l.self.marks.items ≤ new_count l.initial.self.marks.items;
}

abbrev pub decreases-loop-self : goal.decreases-loop-self
decreases-loop-self l = vec_len l.self.pending + vec_len l.self.segments
