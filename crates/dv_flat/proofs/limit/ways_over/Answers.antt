use Rattle.std.proofs.Common.{ap, sym, ◌∙◌, map}
use Rattle.std.specs.Option.{option_copied}
use Rattle.dv_syntax.specs.Trees.{model_of}
use Rattle.dv_flat.specs.Ways.{ways_by}
use Rattle.dv_flat.proofs.Loops.{over_more}
use Rattle.dv_flat.proofs.limit.ways_over.Goals as goal

pub loop-index-preserved : goal.loop-index-preserved
loop-index-preserved c =
    let at = c.loop-index in
    let models = map model_of c.args.tree.now.reached in
    over_more c.args.below.now models c.reached-model-items.result.now c.model-item.result at.index c.scopes-scopes.result.now
    c.levels-levels.result.now c.index-scopes-index.result _ at.over.items c.push.new.self.items c.in_ok-ways_by.field-0
    (ap (map model_of) (sym c.reached-model-items.ensures)) c.scopes-scopes.ensures c.levels-levels.ensures c.loop-index-test.true
    c.model-item.is c.index-scopes-index.is c.level_at-level.ensures
    (c.in_ok-ways_by.ensures
    ∙ ap (λ n. ways_by n c.index-scopes-index.result (option_copied c.level_at-level.result) c.args.below.now)
    c.own_inputs-inputs.ensures)
    c.in_ok-push.ensures.items at.invariant
