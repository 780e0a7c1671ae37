use Rattle.std.proofs.Common.{◌≡◌, drop}
use Rattle.dv_proc.specs.Arriving.{index_from}
use Rattle.dv_proc.proofs.incoming.index_of.Given as goal

abbrev pub invariant-loop-index : goal.invariant-loop-index
invariant-loop-index l = index_from 0 l.number l.fn.incoming ≡ index_from l.index l.number (drop l.index l.fn.incoming)
