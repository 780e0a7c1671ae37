use Rattle.std.proofs.Common.{ap, ◌∙◌}
use Rattle.dv_bag.specs.Same.{same_bags}
use Rattle.dv_bag.specs.Sent.{by_port}
use Rattle.dv_bag.proofs.SendingOrder.{lists_compared, ports_compared}
use Rattle.dv_bag.proofs.sent.SentPartialEq.eq.Goals as goal

pub returns-then-self-other : goal.returns-then-self-other
returns-then-self-other c =
    let one = c.self.inside in
    let other = c.other.inside in
    lists_compared one.ports other.ports one.sendings.items other.sendings.items c.self.invariant.0 c.self.invariant.1
    c.other.invariant.0 c.other.invariant.1 c.if-self-other.true c.eq.result c.eq.ensures
    ∙ ap (λ bags. same_bags bags (by_port other.ports other.sendings.items)) c.self.view_is
    ∙ ap (same_bags c.args.self.now) c.other.view_is

pub returns-else-self-other : goal.returns-else-self-other
returns-else-self-other c =
    let one = c.self.inside in
    let other = c.other.inside in
    ports_compared one.ports other.ports one.sendings.items other.sendings.items c.self.invariant.0 c.self.invariant.1
    c.other.invariant.0 c.other.invariant.1 c.if-self-other.false
    ∙ ap (λ bags. same_bags bags (by_port other.ports other.sendings.items)) c.self.view_is
    ∙ ap (same_bags c.args.self.now) c.other.view_is
