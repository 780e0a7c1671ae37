use Rattle.std.proofs.Common.{false, true, ◌+◌, ◌++◌, List, map, string_bytes, sym, ap, ◌∙◌, subst}
use Rattle.std.specs.List.{All, filter_map}
use Rattle.std.proofs.lemmas.Result.{on_err_weaker}
use Rattle.dv_syntax.specs.Trees.{ModelTree, file_of, model_of}
use Rattle.dv_syntax.specs.declared.tree.File.{File}
use Rattle.dv_syntax.specs.declared.tree.Model.{Model}
use Rattle.dv_gen.specs.ModelCode.{IsCompilableModel}
use Rattle.dv_text.specs.Writing.{StopsShort}
use Rattle.dv_text.proofs.Taking.{OnErr-always, StopsShort-after, StopsShort-from, TakesFront-handed, TakesFront-left}
use Rattle.dv_text.proofs.Taking.{TakesFront-nothing, TakesFront-pushed, TakesFront-rest, some-behind}
use Rattle.dv_listing.specs.Listing.{listing_text, text_of_model}
use Rattle.dv_listing.proofs.Left.{StopsShort-before, all_left, atomic_next, atomic_some, compilable_at, coupled_next, left_from, none_left}
use Rattle.dv_listing.proofs.listing.write_listing.Goals.{in-Atomic+in_ok-push_model+in_ok-hand_over_if_long, in_default}
use Rattle.dv_listing.proofs.listing.write_listing.Goals as goal

pub loop-model-init : goal.loop-model-init
loop-model-init g c =
    let names = c.args.tree.now.names in
    let file = c.args.tree.now.file in
    let items = c.deref-model-items.result.now in
    let start =
    all_left (filter_map (text_of_model names) (map model_of file.models.items))
    ∙ ap (λ (ms : List Model). left_from names ms true 0)
    (sym (c.deref-model-items.ensures.value ∙ ap (λ (f : File). f.models.items) c.file.ensures))
    ∙ ap (λ t. t ++ left_from names items true 0) (sym c.new-text.ensures.bytes) in
    TakesFront-left start (TakesFront-nothing (g.W.Write.contents c.args.writer.now) (listing_text names (file_of file)))

pub push_model-requires : goal.push_model-requires
push_model-requires g c =
    let P : List Model → Type 0 = λ ms. All (λ (m : ModelTree). IsCompilableModel m) (map model_of ms) in
    let items = c.deref-model-items.ensures.value ∙ ap (λ (f : File). f.models.items) c.file.ensures in
    compilable_at c.deref-model-items.result.now c.loop-model.model-index c.model-item.result c.in-Atomic.atomic
    (subst P (sym items) c.requires) c.loop-model-test.true c.model-item.is c.in-Atomic.is

pub returns-in_err-push_model-clause-err : goal.returns-in_err-push_model-clause-err
returns-in_err-push_model-clause-err g c =
    let some =
    atomic_some c.args.tree.now.names c.deref-model-items.result.now c.loop-model.is_first c.loop-model.model-index c.model-item.result
    c.in-Atomic.atomic c.loop-model-test.true c.model-item.is c.in-Atomic.is in
    OnErr-always _ (StopsShort-from
    {t = string_bytes c.loop-model.text
    ++ left_from c.args.tree.now.names c.deref-model-items.result.now c.loop-model.is_first c.loop-model.model-index}
    c.loop-model.invariant (some-behind (string_bytes c.loop-model.text) _ some))

pub returns-in_err-hand_over_if_long-clause-err : goal.returns-in_err-hand_over_if_long-clause-err
returns-in_err-hand_over_if_long-clause-err g c =
    let names = c.args.tree.now.names in
    let items = c.deref-model-items.result.now in
    let next =
    atomic_next names items c.loop-model.is_first c.loop-model.model-index c.model-item.result c.in-Atomic.atomic c.loop-model-test.true
    c.model-item.is c.in-Atomic.is in
    let pushed = TakesFront-pushed _ _ _ _ _ c.loop-model.invariant next c.in_ok-push_model.ensures in
    OnErr-always _ (StopsShort-after pushed
    (StopsShort-before (left_from names items false (c.loop-model.model-index + 1)) c.in_err-hand_over_if_long.ensures.err))

pub loop-model-preserved : goal.loop-model-preserved
loop-model-preserved g c =
    let names = c.args.tree.now.names in
    let items = c.deref-model-items.result.now in
    let i = c.loop-model.model-index in
    elim c.match-model.branch [
      | in-Atomic+in_ok-push_model+in_ok-hand_over_if_long w ↦
          let next =
          atomic_next names items c.loop-model.is_first i c.model-item.result w.in-Atomic.atomic c.loop-model-test.true
          c.model-item.is w.in-Atomic.is in
          let pushed = TakesFront-pushed _ _ _ _ _ c.loop-model.invariant next w.in_ok-push_model.ensures in
          rw (w.writer-is, w.text-is, w.is_first-is)
          (TakesFront-handed _ _ (left_from names items false (i + 1)) pushed w.in_ok-hand_over_if_long.ensures.ok)
      | in_default w ↦
          let next =
          coupled_next names items c.loop-model.is_first i c.model-item.result w.in_default.field-0 c.loop-model-test.true
          c.model-item.is w.in_default.is in
          rw (w.writer-is, w.text-is, w.is_first-is)
          (TakesFront-left (ap (λ t. string_bytes c.loop-model.text ++ t) next) c.loop-model.invariant)
    ]

pub returns-clause-err : goal.returns-clause-err
returns-clause-err g c =
    let names = c.args.tree.now.names in
    let items = c.deref-model-items.result.now in
    let whole =
    TakesFront-rest (string_bytes c.loop-model.text) (left_from names items c.loop-model.is_first c.loop-model.model-index)
    (none_left names items c.loop-model.is_first c.loop-model.model-index c.loop-model-test.false) c.loop-model.invariant in
    on_err_weaker c.hand_over.result
    (λ (p : StopsShort (g.W.Write.contents c.loop-model.writer) (g.W.Write.contents c.hand_over.new.writer)
    c.as_bytes.result.now).
    StopsShort-after whole (rw c.as_bytes.ensures.value at p)) c.hand_over.ensures.err
