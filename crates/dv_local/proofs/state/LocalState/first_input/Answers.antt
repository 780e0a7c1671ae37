use Rattle.std.proofs.Common.{◌≡◌, ap, List, [], length, None, sym, ◌∙◌}
use Rattle.std.proofs.lemmas.Bool.{eqb-true}
use Rattle.std.proofs.lemmas.List.{nil_from_length}
use Rattle.dv_time.specs.Time.{rank}
use Rattle.dv_time.specs.declared.time.Time.{Time}
use Rattle.dv_bag.specs.Inputs.{next_from}
use Rattle.dv_bag.specs.declared.inputs.Input.{Input}
use Rattle.dv_local.specs.States.{view_by}
use Rattle.dv_local.proofs.FirstInput.{QuietInside, QuietOutside, both_first, calm, first_inside, first_of_inputs}
use Rattle.dv_local.proofs.Inboxes.{but_none}
use Rattle.dv_local.proofs.state.LocalState.first_input.Goals as goal

-- there are no inputs, and nothing is held
pub returns-then-is_empty-2 : goal.returns-then-is_empty-2
returns-then-is_empty-2 g c =
    let x = c.args.self.now in
    let b = g.A.Atomic.behaviour in
    let told = g.R.Record.told in
    let from = c.args.from in
    let limit = x.share.tables.limit in
    let share = c.requires.kept.share in
    let same = c.as_slice.ensures.inputs in
    let none : c.as_slice.result.now ≡ [] =
    nil_from_length c.as_slice.result.now (eqb-true (length c.as_slice.result.now) 0 (sym c.is_empty.ensures ∙ c.if-is_empty.true)) in
    let no_inputs : x.share.inputs ≡ [] = sym same ∙ none in
    let next : None ≡ next_from limit x.share.inputs from = ap (λ (xs : List Input). next_from limit xs from) (sym no_inputs) in
    let quiet = λ (t : Time). but_none x.undo.taken t x.inbox (c.is_empty-then-is_empty.ensures c.if-is_empty-2.true t) in
    both_first (view_by b told x) (rank limit from) (QuietInside b told x) (QuietOutside b told x) (calm b told x) None None
    (first_inside b told x None from c.requires.of_run c.requires.kept.arrive (λ t e. quiet t) tt)
    (first_of_inputs b told x None from c.requires.of_run c.as_slice.ensures.by_time share.led share.of_run next)
