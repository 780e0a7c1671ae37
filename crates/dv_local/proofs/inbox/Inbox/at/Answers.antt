use Rattle.std.proofs.Common.{sym, ap, ◌∙◌}
use Rattle.dv_local.specs.Arrivals.{arrivals_at, items_of}
use Rattle.dv_local.proofs.ArrivalMaps.{at_of}
use Rattle.dv_local.proofs.inbox.Inbox.at.Goals as goal

pub returns-then-is_empty : goal.returns-then-is_empty
returns-then-is_empty c = sym (c.is_empty.ensures c.if-is_empty.true c.args.time)

pub returns-in-Some : goal.returns-in-Some
returns-in-Some c =
    c.as_slice.ensures.value
    ∙ ap items_of c.in-Some.ensures.value
    ∙ sym (at_of c.self.inside.by_time c.args.time)
    ∙ ap (arrivals_at c.args.time) c.self.view_is

pub returns-in-None : goal.returns-in-None
returns-in-None c =
    ap items_of c.in-None.ensures.value
    ∙ sym (at_of c.self.inside.by_time c.args.time)
    ∙ ap (arrivals_at c.args.time) c.self.view_is
