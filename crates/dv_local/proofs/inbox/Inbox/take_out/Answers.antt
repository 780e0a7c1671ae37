use Rattle.std.proofs.Common.{List, [], cond, sym, ap, ◌∙◌}
use Rattle.dv_local.specs.Arrivals.{arrivals_at}
use Rattle.dv_agenda.specs.Waits.{same_time}
use Rattle.dv_share.specs.declared.link.Delivery.{Delivery}
use Rattle.dv_local.proofs.ArrivalMaps.{at_of, removed_at}
use Rattle.dv_local.proofs.inbox.Inbox.take_out.Goals as goal

pub returns : goal.returns
returns c = λ t.
    at_of c.remove.new.self t
    ∙ removed_at c.self.inside.by_time c.remove.new.self c.args.time t (c.remove.ensures.updates.0 t)
    ∙ ap (λ (found : List Delivery). cond (same_time c.args.time t) [] found)
    (sym (at_of c.self.inside.by_time t) ∙ ap (arrivals_at t) c.self.view_is)
