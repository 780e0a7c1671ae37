use Rattle.std.proofs.Common.{ap, sym, ◌∙◌, map, arith, true, false}
use Rattle.std.specs.Prelude.{Some, slice_get}
use Rattle.dv_syntax.specs.Trees.{model_of}
use Rattle.dv_tree.specs.Reached.{borrowed_models, marked}
use Rattle.dv_tree.proofs.ReachedModels.{borrowed_more, marked_more, model_read_at, indices_more}
use Rattle.dv_tree.proofs.reached.Reached.marked.Goals as goal
use Rattle.dv_tree.proofs.reached.Reached.marked.Goals.{then-marks-index+in_ok-push+in_ok-push-2, else-marks-index}

pub loop-index-preserved : goal.loop-index-preserved
loop-index-preserved c =
    let at = c.loop-index in
    let marks = c.args.marks.now in
    let models = c.args.models.now in
    let m = c.index-models-index.result in
    let found = borrowed_models at.reached.models.items in
    let get = slice_get (map model_of models) in
    elim c.if-marks-index.branch [
      | then-marks-index+in_ok-push+in_ok-push-2 w ↦
          let models_are = ap (λ r. borrowed_models r.models.items) w.reached-is
          ∙ (ap borrowed_models w.in_ok-push.ensures.items ∙ borrowed_more at.reached.models.items _) in
          record {
            models = marked_more marks models at.index true _ m _ found _ (marked marks (map model_of models))
                (omega (arith, c.requires, c.loop-index-test.true)) c.loop-index-test.true (sym w.if-marks-index.true)
                c.index-models-index.is models_are at.invariant.models;
            indices = ap (λ r. map get r.indices.items) w.reached-is
                ∙ (ap (map get) w.in_ok-push-2.ensures.items
                ∙ (indices_more (map model_of models) at.reached.indices.items found at.index (model_of m)
                (model_read_at models at.index m _ c.loop-index-test.true c.index-models-index.is) at.invariant.indices
                ∙ ap (map Some) (sym models_are)));
          }
      | else-marks-index w ↦
          let models_are = ap (λ r. borrowed_models r.models.items) w.reached-is in
          record {
            models = marked_more marks models at.index false _ m _ found _ (marked marks (map model_of models))
                (omega (arith, c.requires, c.loop-index-test.true)) c.loop-index-test.true (sym w.if-marks-index.false)
                c.index-models-index.is models_are at.invariant.models;
            indices = ap (λ r. map get r.indices.items) w.reached-is ∙ (at.invariant.indices ∙ ap (map Some) (sym models_are));
          }
    ]
