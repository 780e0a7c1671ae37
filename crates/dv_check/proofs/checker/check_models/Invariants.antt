use Rattle.std.proofs.Common.{◌≡◌, map, drop}
use Rattle.std.specs.List.{flat_map}
use Rattle.dv_syntax.specs.Trees.{file_of, model_of}
use Rattle.dv_check.specs.Findings.{with_refusals}
use Rattle.dv_check.specs.Models.{faces_by, faces_in}
use Rattle.dv_check.specs.Refusals.{model_refusals}
use Rattle.dv_check.proofs.checker.check_models.Given as goal

abbrev pub invariant-loop-model : goal.invariant-loop-model
invariant-loop-model l =
    (with_refusals l.found (flat_map (model_refusals (file_of l.file).models) (map model_of (drop l.model-index l.model-items)))
    ≡ with_refusals l.initial.found (flat_map (model_refusals (file_of l.file).models) (file_of l.file).models))
    × (faces_by l.faces ≡ faces_in (file_of l.file).models)
