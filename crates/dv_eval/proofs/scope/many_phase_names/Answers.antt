use Rattle.std.proofs.Common.{◌+◌, ◌∷◌, ◌∙◌, ap, sym, drop, map}
use Rattle.std.proofs.lemmas.List.{at_drop_more}
use Rattle.dv_syntax.specs.Trees.{phases_of}
use Rattle.dv_eval.specs.Scope.{phases_in, with_names}
use Rattle.dv_eval.proofs.Names.{with_names_append}
use Rattle.dv_eval.proofs.scope.many_phase_names.Goals as goal

pub loop-item-preserved : goal.loop-item-preserved
loop-item-preserved c =
    let items = c.args.phases.now in
    let i = c.loop-item.item-index in
    let item = c.item-item.result in
    let names = c.loop-item.names.keys in
    let rest = phases_in (map phases_of (drop (i + 1) items)) in
    ap (λ ns. with_names ns rest) (c.in_ok-declare_names.ensures ∙ ap (with_names names) c.deref.ensures.value)
    ∙ sym (with_names_append names item.names.items rest)
    ∙ ap (λ x. with_names names (phases_in (map phases_of (x ∷ drop (i + 1) items)))) c.item-item.is
    ∙ sym (at_drop_more (λ xs. with_names names (phases_in (map phases_of xs))) items i item c.loop-item-test.true)
    ∙ c.loop-item.invariant
