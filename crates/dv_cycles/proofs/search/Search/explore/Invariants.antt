use Rattle.std.proofs.Common.{◌≢◌}
use Rattle.dv_cycles.specs.Search.{IsSearch, NoneAnew, mark_at, new_count}
use Rattle.dv_cycles.specs.declared.search.Mark.TheVariants.{New}
use Rattle.dv_cycles.proofs.search.Search.explore.Given as goal

abbrev pub invariant-loop : goal.invariant-loop
invariant-loop l = record {
  search : IsSearch l.graph l.self;
  reached : mark_at l.self.marks.items l.root ≢ New;
  none_anew : NoneAnew l.fn.self.marks.items l.self.marks.items;
}

abbrev pub decreases-loop : goal.decreases-loop
decreases-loop l = new_count l.self.marks.items
