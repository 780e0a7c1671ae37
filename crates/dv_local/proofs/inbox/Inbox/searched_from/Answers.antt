use Rattle.std.proofs.Common.{◌<◌, List, length, is_gt, sym, ap, subst, ◌∙◌}
use Rattle.std.specs.BTreeMap.{get}
use Rattle.dv_time.specs.Time.{time_cmp}
use Rattle.dv_time.specs.declared.time.Time.{Time}
use Rattle.dv_local.specs.Arrivals.{arrivals_at, items_of}
use Rattle.dv_share.specs.declared.link.Delivery.{Delivery}
use Rattle.dv_local.proofs.ArrivalMaps.{at_of, filled_at, first_in, is_after, not_after, nothing_in}
use Rattle.dv_local.proofs.inbox.Inbox.searched_from.Goals as goal

pub returns-in-Some-clause-there : goal.returns-in-Some-clause-there
returns-in-Some-clause-there c =
    let m = c.self.inside.by_time in
    let k : Time = c.in-Some.time.now in
    let h = c.range.ensures.in_range tt in
    let s = first_in _ _ _ _ c.in-Some.ensures.steps h.1 in (
      sym (not_after k c.args.from) ∙ s.0.0,
      subst (λ (found : List Delivery). 0 < length found) (sym (sym (ap (arrivals_at k) c.self.view_is) ∙ at_of m k))
          (filled_at m k c.in-Some.field-0-1.now c.self.invariant s.1),
    )

pub returns-in-Some-clause-least : goal.returns-in-Some-clause-least
returns-in-Some-clause-least c = λ t h l.
    let m = c.self.inside.by_time in
    let k : Time = c.in-Some.time.now in
    let r = c.range.ensures.in_range tt in
    sym (ap (arrivals_at t) c.self.view_is) ∙ at_of m t
    ∙ nothing_in (get time_cmp m t) (is_gt (time_cmp k t))
    (λ some. first_in _ _ _ _ c.in-Some.ensures.steps (r.2 t (not_after t c.args.from ∙ h, tt) some)) (is_after t k l)

pub returns-in-None-clause-there : goal.returns-in-None-clause-there
returns-in-None-clause-there c = λ t h.
    let m = c.self.inside.by_time in
    let r = c.range.ensures.in_range tt in
    sym (ap (arrivals_at t) c.self.view_is) ∙ at_of m t
    ∙ ap items_of (r.5 c.in-None.ensures.steps.0 t (not_after t c.args.from ∙ h, tt))
