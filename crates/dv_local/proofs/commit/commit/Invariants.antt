use Rattle.std.proofs.Common.{◌≡◌, ◌+◌, ◌<◌, ◌≤◌, List, Result, length, slice_index_or, take}
use Rattle.std.specs.List.{AllWithin}
use Rattle.dv_bag.specs.Bag.{Counts}
use Rattle.dv_bag.specs.declared.fault.Fault.{Fault}
use Rattle.dv_react.specs.Components.{rank_of}
use Rattle.dv_proc.specs.Accesses.{IsCounted}
use Rattle.dv_record.specs.Told.{IsOpenAt}
use Rattle.dv_share.specs.Indices.{indices_of}
use Rattle.dv_share.specs.Share.{AreComponents}
use Rattle.dv_share.specs.declared.index.Indexed.{Indexed}
use Rattle.dv_local.specs.Commits.{HaveReacted}
use Rattle.dv_local.specs.Undoing.{AreWithin, undone, waits_of}
use Rattle.dv_local.proofs.commit.commit.Given as goal

-- So far the components of the first arrivals have reacted, and all emissions before the cursor stand before the next arrival.
abbrev pub invariant-loop-order : goal.invariant-loop-order
invariant-loop-order g l = record {
  reacted :
      HaveReacted g.A.Atomic.behaviour g.A.Atomic.fits l.moment.tables.now (rank_of l.moment.instant.now) l.fn.components.running
      l.moment.emitted.now l.received.items (indices_of (take l.order l.received.items)) l.components.running
      (g.R.Record.told l.fn.to).entries (g.R.Record.told l.to).entries;
  components : AreComponents g.A.Atomic.fits l.moment.tables.now l.components.running;
  agenda : l.agenda ≡ waits_of l.components.running;
  within : AreWithin (length l.components.running) l.before;
  before : undone l.before l.components.running ≡ undone l.fn.before l.fn.components.running;
  visits : IsCounted l.order l.order l.fn.components.visits l.components.visits;
  count :
      length l.before + length (g.R.Record.told l.fn.to).entries
      ≡ length l.fn.before + length (g.R.Record.told l.to).entries;
  outer : (g.R.Record.told l.to).outer ≡ (g.R.Record.told l.fn.to).outer;
  is_open : IsOpenAt l.moment.instant.now.time (g.R.Record.told l.to);
  settled : g.R.Record.settled l.to ≡ g.R.Record.settled l.fn.to;
  handed : g.R.Record.handed l.to ≡ g.R.Record.handed l.fn.to;
  cursor : l.cursor ≤ length l.moment.emitted.now;
  passed :
      (d : Indexed (List Counts)) → l.order < length l.received.items
      → AllWithin (λ (e : Indexed (Result (List Counts) Fault)). e.index < (slice_index_or l.received.items l.order d).index)
      l.moment.emitted.now 0 l.cursor;
}
