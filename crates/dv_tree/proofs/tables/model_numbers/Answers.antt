use Rattle.std.proofs.Common.{map, refl}
use Rattle.dv_syntax.specs.Trees.{model_of}
use Rattle.dv_tree.specs.Tables.{model_names}
use Rattle.dv_tree.proofs.Gathered.{gathered_more}
use Rattle.dv_tree.proofs.tables.model_numbers.Goals as goal

pub loop-model-preserved : goal.loop-model-preserved
loop-model-preserved c =
    gathered_more (λ models. model_names (map model_of models)) _ _ _ _ _ _ _ _ c.loop-model-test.true c.model-item.is c.number_of.ensures
    c.in_ok-push.ensures.items c.loop-model.invariant (λ rest. refl)
