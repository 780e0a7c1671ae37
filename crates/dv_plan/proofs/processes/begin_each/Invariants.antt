use Rattle.std.proofs.Common.{◌≡◌, map}
use Rattle.std.specs.List.{All}
use Rattle.dv_local.specs.Shares.{share_by}
use Rattle.dv_local.specs.States.{settled_by, view_by}
use Rattle.dv_record.specs.Told.{no_text}
use Rattle.dv_plan.specs.Beginning.{AllBegun}
use Rattle.dv_plan.proofs.processes.begin_each.Given as goal

abbrev pub invariant-loop-share : goal.invariant-loop-share
invariant-loop-share g l = record {
  begun : AllBegun (view_by g.A.Atomic.behaviour g.R.Record.told) (settled_by g.A.Atomic.behaviour g.R.Record.settled)
      (map (share_by g.A.Atomic.behaviour) l.yielded)
      l.processes.items;
  handed : All (λ p. g.R.Record.handed p.local.record ≡ no_text) l.processes.items;
}
