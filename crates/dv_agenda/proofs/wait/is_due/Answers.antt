use Rattle.std.proofs.Common.{Option, sym, ap, ◌∙◌}
use Rattle.dv_time.specs.declared.time.Time.{Time}
use Rattle.dv_agenda.specs.Waits.{ends_at}
use Rattle.dv_agenda.proofs.FirstWaits.{within_due}
use Rattle.dv_agenda.proofs.wait.is_due.Goals as goal

pub returns-clause-within : goal.returns-clause-within
returns-clause-within c = λ e.
    within_due c.args.waits.now c.args.index c.args.time
    (ap (λ (w : Option Time). ends_at c.args.time w) (sym c.wait_at.ensures) ∙ sym c.ends_at.ensures ∙ e)
