use Rattle.std.proofs.Common.{map, refl, ◌∙◌}
use Rattle.dv_tree.specs.Reached.{borrowed_models}
use Rattle.dv_check.specs.Ports.{shown_inputs}
use Rattle.dv_tree.proofs.Below.{scope_lent}
use Rattle.dv_tree.proofs.Gathered.{gathered_more}
use Rattle.dv_tree.proofs.tables.inputs.Goals as goal

pub inputs_of-requires : goal.inputs_of-requires
inputs_of-requires c =
    scope_lent c.args.models.now c.args.scopes.now c.loop-index.index c.index-models-index.result c.index-scopes-index.result c.requires
    c.loop-index-test.true c.index-models-index.is c.index-scopes-index.is

pub loop-index-preserved : goal.loop-index-preserved
loop-index-preserved c =
    gathered_more (λ models. map shown_inputs (borrowed_models models)) _ _ _ _ _ _ _ _ c.loop-index-test.true c.index-models-index.is
    (c.in_ok-of.ensures ∙ c.in_ok-names.ensures) c.in_ok-push.ensures.items c.loop-index.invariant (λ rest. refl)
