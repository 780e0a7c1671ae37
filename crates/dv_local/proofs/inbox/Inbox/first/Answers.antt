use Rattle.std.proofs.Common.{◌<◌, List, length, sym, ap, subst, ◌∙◌}
use Rattle.std.proofs.lemmas.Bool.{false≢true}
use Rattle.dv_time.specs.declared.time.Time.{Time}
use Rattle.dv_local.specs.Arrivals.{arrivals_at}
use Rattle.dv_share.specs.declared.link.Delivery.{Delivery}
use Rattle.dv_local.proofs.ArrivalMaps.{at_of, filled_at, nothing_at_all, nothing_before}
use Rattle.dv_local.proofs.inbox.Inbox.first.Goals as goal

pub returns-in-Some-clause-none : goal.returns-in-Some-clause-none
returns-in-Some-clause-none c =
    let m = c.self.inside.by_time in
    let k : Time = c.in-Some.time.now in
    subst (λ (found : List Delivery). 0 < length found) (sym (sym (ap (arrivals_at k) c.self.view_is) ∙ at_of m k))
    (filled_at m k c.in-Some.field-0-1.now c.self.invariant c.in-Some.ensures.value)

pub returns-in-Some-clause-least : goal.returns-in-Some-clause-least
returns-in-Some-clause-least c = λ t h.
    sym (ap (arrivals_at t) c.self.view_is) ∙ at_of c.self.inside.by_time t
    ∙ nothing_before c.self.inside.by_time c.in-Some.time.now t c.in-Some.ensures.least h

pub returns-in-None-clause-none : goal.returns-in-None-clause-none
returns-in-None-clause-none c = λ t.
    sym (ap (arrivals_at t) c.self.view_is) ∙ at_of c.self.inside.by_time t
    ∙ nothing_at_all c.self.inside.by_time t (λ lt. false≢true (c.in-None.ensures.variant.1 lt))

pub returns-in-None-clause-least : goal.returns-in-None-clause-least
returns-in-None-clause-least c = λ t.
    sym (ap (arrivals_at t) c.self.view_is) ∙ at_of c.self.inside.by_time t
    ∙ nothing_at_all c.self.inside.by_time t (λ lt. false≢true (c.in-None.ensures.variant.1 lt))
