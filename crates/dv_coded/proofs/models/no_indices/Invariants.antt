use Rattle.std.proofs.Common.{◌≡◌, map, take}
use Rattle.dv_coded.proofs.Lists.{nowhere}
use Rattle.dv_coded.proofs.models.no_indices.Given as goal

abbrev pub invariant-loop-model : goal.invariant-loop-model
invariant-loop-model l = l.indices.items ≡ map nowhere (take l._model-index l.models)
