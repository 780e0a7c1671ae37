use Rattle.std.proofs.Common.{sym, ap, ◌∙◌}
use Rattle.dv_flat.proofs.Enough.{none_chosen, one_chosen}
use Rattle.dv_flat.specs.Ends.{port_at}
use Rattle.dv_flat.proofs.ports.chosen.Goals as goal
use Rattle.dv_flat.proofs.ports.chosen.Goals.{then-is_set+in_ok-push, else-is_set}

pub loop-index-preserved : goal.loop-index-preserved
loop-index-preserved c =
    let ports = c.args.ports.now in
    let at = c.loop-index in
    elim c.if-is_set.branch [
      | then-is_set+in_ok-push w ↦
          one_chosen at.index c.args.flags.now ports at.chosen.items c.if-is_set.chosen.items _ (port_at 0 0)
          c.loop-index-test.true
          at.invariant (sym c.is_set.ensures ∙ w.if-is_set.true) (ap (λ v. v.items) w.chosen-is ∙ w.in_ok-push.ensures.items)
      | else-is_set w ↦
          none_chosen at.index c.args.flags.now ports at.chosen.items c.if-is_set.chosen.items _ (port_at 0 0)
          c.loop-index-test.true
          at.invariant (sym c.is_set.ensures ∙ w.if-is_set.false) (ap (λ v. v.items) w.chosen-is)
    ]
