use Rattle.std.proofs.Common.{ap}
use Rattle.dv_syntax.specs.Trees.{model_of}
use Rattle.dv_check.proofs.Firsts.{faces_none, faces_step}
use Rattle.dv_check.proofs.models.faces_of.Goals as goal

pub loop-model-init : goal.loop-model-init
loop-model-init c = faces_none c.in_ok-faces.faces c.in_ok-faces.ensures

pub loop-model-preserved : goal.loop-model-preserved
loop-model-preserved c =
    faces_step c.args.models.now c.loop-model.model-index c.model-item.result c.loop-model-test.true c.model-item.is model_of
    c.loop-model.faces c.add.new.self _ _ (ap (λ n. n.number) c.name_of.ensures) c.in_ok-face_of.ensures c.loop-model.invariant
    c.in_ok-add.ensures.added
