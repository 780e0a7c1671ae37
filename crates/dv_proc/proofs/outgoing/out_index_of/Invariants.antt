use Rattle.std.proofs.Common.{◌≡◌, drop}
use Rattle.dv_proc.specs.Leaving.{out_index_from}
use Rattle.dv_proc.proofs.outgoing.out_index_of.Given as goal

abbrev pub invariant-loop-index : goal.invariant-loop-index
invariant-loop-index l = out_index_from 0 l.number l.fn.outgoing ≡ out_index_from l.index l.number (drop l.index l.fn.outgoing)
