use Rattle.std.proofs.Common.{sym, ap, ◌∙◌}
use Rattle.dv_syntax.specs.Trees.{model_of}
use Rattle.dv_check.proofs.ModelPositions.{positions_none, positions_step}
use Rattle.dv_check.proofs.positions.positions_of.Goals as goal

pub loop-index-init : goal.loop-index-init
loop-index-init c = c.in_ok-positions.ensures ∙ sym positions_none

pub loop-index-preserved : goal.loop-index-preserved
loop-index-preserved c =
    positions_step c.args.models.now c.loop-index.index c.index-models-index.result c.loop-index-test.true c.index-models-index.is
    model_of _ _ _ (ap (λ n. n.number) c.name_of.ensures) c.loop-index.invariant c.in_ok-add.ensures.added
