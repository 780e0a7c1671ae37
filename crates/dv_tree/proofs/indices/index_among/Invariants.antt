use Rattle.std.proofs.Common.{◌≡◌, drop}
use Rattle.dv_eval.specs.Scope.{index_from, index_of}
use Rattle.dv_tree.proofs.indices.index_among.Given as goal

abbrev pub invariant-loop-index : goal.invariant-loop-index
invariant-loop-index l = index_from l.index l.number (drop l.index l.numbers) ≡ index_of l.number l.numbers
