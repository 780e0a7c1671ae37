use Rattle.std.proofs.Common.{◌≡◌, []}
use Rattle.std.specs.List.{flat_map}
use Rattle.std.specs.Vec.Iter.{into_iter_items}
use Rattle.dv_bag.specs.Part.{since}
use Rattle.dv_written.proofs.part.entries_since.Given as goal

abbrev pub invariant-loop-entry : goal.invariant-loop-entry
invariant-loop-entry g l = record {
  rest : l.rest ≡ since l.fn.time (record { entries = l.yielded; outer = [] });
  text : l.text ≡ flat_map g.N.OfJob.line (into_iter_items l.entry-iterator);
}
