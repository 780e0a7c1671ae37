use Rattle.std.proofs.Common.{◌≡◌, ap, List, Option, sym, subst, ◌∙◌}
use Rattle.dv_time.specs.Time.{rank}
use Rattle.dv_time.specs.declared.time.Time.{Time}
use Rattle.dv_bag.specs.Inputs.{next_from}
use Rattle.dv_bag.specs.declared.inputs.Input.{Input}
use Rattle.dv_proc.specs.Local.{IsFirstInput}
use Rattle.dv_local.specs.Shares.{AreOfRun}
use Rattle.dv_local.specs.States.{view_by}
use Rattle.dv_local.proofs.FirstInput.{QuietInside, QuietOutside, both_first, calm, first_inside, first_of_inputs}
use Rattle.dv_local.proofs.state.LocalState.searched_input.Goals as goal

pub returns : goal.returns
returns g c =
    let x = c.args.self.now in
    let b = g.A.Atomic.behaviour in
    let told = g.R.Record.told in
    let from = c.args.from in
    let limit = x.share.tables.limit in
    let k = rank limit from in
    let held : Option Time = c.first_held-held.result in
    let outside : Option Time = c.first_outside-outside.result in
    let share = c.requires.kept.share in
    let same = c.as_slice.ensures.inputs in
    let next : outside ≡ next_from limit x.share.inputs from =
    c.first_outside-outside.ensures limit (subst (λ (xs : List Input). AreOfRun limit xs) (sym same) share.of_run)
    ∙ ap (λ (xs : List Input). next_from limit xs from) same in
    subst (λ (r : Option Time). IsFirstInput (view_by b told x) k r) (sym c.earliest.ensures)
    (both_first (view_by b told x) k (QuietInside b told x) (QuietOutside b told x) (calm b told x) held outside
    (first_inside b told x held from c.requires.of_run c.requires.kept.arrive c.first_held-held.ensures.there
    c.first_held-held.ensures.least)
    (first_of_inputs b told x outside from c.requires.of_run c.as_slice.ensures.by_time share.led share.of_run next))
