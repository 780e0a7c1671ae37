use Rattle.std.proofs.Common.{◌≡◌, Bool, true, false, List, [], cond, refl}
use Rattle.dv_local.specs.Arrivals.{arrivals_at}
use Rattle.dv_agenda.specs.Waits.{same_time}
use Rattle.dv_share.specs.declared.link.Delivery.{Delivery}
use Rattle.dv_local.proofs.inbox.Inbox.remove.Goals as goal

nothing : (b : Bool) (found : List Delivery) → found ≡ [] → found ≡ cond b [] found
nothing true found h = h
nothing false found h = refl

pub returns-then-is_empty : goal.returns-then-is_empty
returns-then-is_empty c = λ t.
    nothing (same_time c.args.time t) (arrivals_at t c.args.self.now) (c.is_empty.ensures c.if-is_empty.true t)
