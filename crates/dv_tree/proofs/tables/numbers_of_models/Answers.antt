use Rattle.std.proofs.Common.{refl}
use Rattle.dv_tree.specs.Reached.{borrowed_models}
use Rattle.dv_tree.specs.Tables.{model_names}
use Rattle.dv_tree.proofs.Gathered.{gathered_more}
use Rattle.dv_tree.proofs.tables.numbers_of_models.Goals as goal

pub loop-model-preserved : goal.loop-model-preserved
loop-model-preserved c =
    gathered_more (λ models. model_names (borrowed_models models)) _ _ _ _ _ _ _ _ c.loop-model-test.true c.model-item.is
    c.number_of.ensures c.in_ok-push.ensures.items c.loop-model.invariant (λ rest. refl)
