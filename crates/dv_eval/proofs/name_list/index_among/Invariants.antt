use Rattle.std.proofs.Common.{◌≡◌, drop}
use Rattle.dv_eval.specs.Scope.{index_from, index_of}
use Rattle.dv_eval.proofs.name_list.index_among.Given as goal

abbrev pub invariant-loop-index : goal.invariant-loop-index
invariant-loop-index l = index_from l.index l.name (drop l.index l.names) ≡ index_of l.name l.names
