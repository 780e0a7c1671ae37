use Rattle.std.proofs.Common.{◌≡◌, take, All, Result, List}
use Rattle.dv_bag.specs.Bag.{Counts}
use Rattle.dv_bag.specs.declared.fault.Fault.{Fault}
use Rattle.dv_proc.specs.Accesses.{IsCounted}
use Rattle.dv_share.specs.Indices.{indices_of}
use Rattle.dv_share.specs.declared.index.Indexed.{Indexed}
use Rattle.dv_share.proofs.Emissions.{IsOutput}
use Rattle.dv_local.proofs.emission.emit_all.Given as goal

-- so far each index that was due was visited, and has what its output function gives
abbrev pub invariant-loop-index : goal.invariant-loop-index
invariant-loop-index g l = record {
  indices : indices_of l.emitted ≡ take l.index-index l.due;
  given :
      All (λ (e : Indexed (Result (List Counts) Fault)). IsOutput g.A.Atomic.behaviour l.tables l.fn.components.running e.index e.what)
      l.emitted;
  running : l.components.running ≡ l.fn.components.running;
  visits : IsCounted l.index-index l.index-index l.fn.components.visits l.components.visits;
}
