use Rattle.std.proofs.Common.{◌<◌, length, sym, ap, ◌∙◌, arith}
use Rattle.std.proofs.lemmas.Bool.Decides.{nat_tests}
use Rattle.dv_local.specs.Arrivals.{arrivals_at}
use Rattle.dv_local.proofs.ArrivalMaps.{at_of, nothing_at_all}
use Rattle.dv_local.proofs.inbox.Inbox.is_empty.Goals as goal

pub returns : goal.returns
returns c = λ h t.
    let none : 0 < length c.self.inside.by_time.entries → ⊥ = λ lt. grind (arith, nat_tests) in
    sym (ap (arrivals_at t) c.self.view_is) ∙ at_of c.self.inside.by_time t
    ∙ nothing_at_all c.self.inside.by_time t none
