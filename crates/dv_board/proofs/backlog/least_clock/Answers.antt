use Rattle.std.proofs.Common.{◌+◌, sym, ap, subst, ◌∙◌}
use Rattle.dv_time.specs.Time.{is_before}
use Rattle.dv_time.specs.declared.time.Time.{Time}
use Rattle.dv_board.proofs.Indices.{IsLeastOf, first_least, least_falls, least_of_all, least_stays}
use Rattle.dv_board.proofs.backlog.least_clock.Goals as goal
use Rattle.dv_board.proofs.backlog.least_clock.Goals.{then-is_before, else-is_before}

pub loop-kept-init : goal.loop-kept-init
loop-kept-init g c =
    let held = c.args.held.now in
    subst (IsLeastOf held 0) (sym c.clock-least.ensures) (first_least held c.index-held-0.result c.requires c.index-held-0.is)

pub loop-kept-preserved : goal.loop-kept-preserved
loop-kept-preserved g c =
    let held = c.args.held.now in
    let k = c.loop-kept.kept-index in
    let least = c.loop-kept.least in
    let h = c.kept-item.result in
    let within = c.loop-kept-test.true in
    let at = c.kept-item.is in
    let so_far = c.loop-kept.invariant in
    let same = c.clock-clock.ensures in
    let test = ap (λ (t : Time). is_before t least) (sym same) ∙ sym c.is_before.ensures.order in
    elim c.if-is_before.branch [
      | then-is_before w ↦ subst (IsLeastOf held (k + 1)) (sym w.least-is)
          (subst (IsLeastOf held (k + 1)) (sym same) (least_falls held k least h within at so_far (test ∙ w.if-is_before.true)))
      | else-is_before w ↦ subst (IsLeastOf held (k + 1)) (sym w.least-is)
          (least_stays held k least h within at so_far (test ∙ w.if-is_before.false))
    ]

pub returns : goal.returns
returns g c = least_of_all c.args.held.now c.loop-kept.kept-index c.loop-kept.least c.loop-kept-test.false c.loop-kept.invariant
