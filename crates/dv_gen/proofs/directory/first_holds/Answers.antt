use Rattle.std.proofs.Common.{◌+◌, ◌∷◌, ◌∙◌, ap, sym, drop, map, refl}
use Rattle.std.proofs.lemmas.List.{at_drop_more, drop_all}
use Rattle.dv_check.specs.Tables.{value_for}
use Rattle.dv_syntax.specs.Trees.{hold_of}
use Rattle.dv_eval.specs.Scope.{hold_ticks}
use Rattle.dv_gen.proofs.Directories.{added_at, hold_kept, ticks_or, ticks_or-none, ticks_or_nothing}
use Rattle.dv_gen.proofs.directory.first_holds.Goals as goal

pub loop-hold-init : goal.loop-hold-init
loop-hold-init c = λ phase.
    let wanted = hold_ticks phase (map hold_of c.args.holds.now) in
    ap (λ f. ticks_or (f phase) wanted) c.in_ok-first.ensures ∙ ticks_or_nothing wanted phase

pub loop-hold-preserved : goal.loop-hold-preserved
loop-hold-preserved c = λ phase.
    let holds = c.args.holds.now in
    let i = c.loop-hold.hold-index in
    let h = c.hold-item.result in
    let before = value_for c.loop-hold.first phase in
    hold_kept phase (hold_of h) (map hold_of (drop (i + 1) holds)) before _ _ refl (added_at _ _ _ _ c.in_ok-add.ensures.added phase)
    ∙ ap (λ x. ticks_or before (hold_ticks phase (map hold_of (x ∷ drop (i + 1) holds)))) c.hold-item.is
    ∙ sym (at_drop_more (λ xs. ticks_or before (hold_ticks phase (map hold_of xs))) holds i h c.loop-hold-test.true)
    ∙ c.loop-hold.invariant phase

pub returns : goal.returns
returns c = λ phase.
    let found = value_for c.loop-hold.first phase in
    sym (ticks_or-none found)
    ∙ ap (λ left. ticks_or found (hold_ticks phase (map hold_of left)))
    (sym (drop_all c.loop-hold.hold-index c.args.holds.now c.loop-hold-test.false))
    ∙ c.loop-hold.invariant phase
