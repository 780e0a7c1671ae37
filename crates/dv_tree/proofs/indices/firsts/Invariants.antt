use Rattle.std.proofs.Common.{◌≡◌, ℕ, take}
use Rattle.dv_check.specs.Tables.{value_for}
use Rattle.dv_eval.specs.Scope.{index_of}
use Rattle.dv_tree.proofs.indices.firsts.Given as goal

abbrev pub invariant-loop-index : goal.invariant-loop-index
invariant-loop-index l = (q : ℕ) → value_for l.firsts q ≡ index_of q (take l.index l.numbers)
