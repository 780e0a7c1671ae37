use Rattle.std.proofs.Common.{◌≡◌, [], replicate}
use Rattle.dv_local.proofs.former.no_copies.Given as goal

abbrev pub invariant-loop-model : goal.invariant-loop-model
invariant-loop-model l = l.copies.items ≡ replicate l._model []
