use Rattle.std.proofs.Common.{◌≡◌, map, take}
use Rattle.dv_syntax.specs.Trees.{model_of}
use Rattle.dv_check.specs.Models.{faces_by, faces_in}
use Rattle.dv_check.proofs.models.faces_of.Given as goal

abbrev pub invariant-loop-model : goal.invariant-loop-model
invariant-loop-model l = faces_by l.faces ≡ faces_in (map model_of (take l.model-index l.models))
