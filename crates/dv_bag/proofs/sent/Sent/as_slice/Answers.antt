use Rattle.std.proofs.Common.{◌≡◌, ℕ, List, length, ap, sym, ◌∙◌, subst}
use Rattle.dv_bag.specs.Bag.{Counts, bag_at}
use Rattle.dv_bag.specs.Sent.{AreInOrder, AreWithin, by_port, pairs_at}
use Rattle.dv_bag.specs.declared.sent.Sending.{Sending}
use Rattle.dv_bag.proofs.SendingOrder.{pairs_of_port, ports_rise}
use Rattle.dv_bag.proofs.Sendings.{from_port_length}
use Rattle.dv_bag.proofs.sent.Sent.as_slice.Goals as goal

-- as many ports as the value has bags
as_many : (ports : ℕ) (items : List Sending) (bags : List Counts) → by_port ports items ≡ bags → length bags ≡ ports
as_many ports items bags is = sym (ap length is) ∙ from_port_length 0 ports items

pub returns-clause-all : goal.returns-clause-all
returns-clause-all c =
    let inside = c.self.inside in
    let count = as_many inside.ports inside.sendings.items c.args.self.now c.self.view_is in
    ap (λ ports. by_port ports c.as_slice.result.now) count ∙ ap (by_port inside.ports) c.as_slice.ensures ∙ c.self.view_is

pub returns-clause-bags : goal.returns-clause-bags
returns-clause-bags c port =
    let inside = c.self.inside in
    let bag = pairs_of_port inside.ports port inside.sendings.items c.self.invariant.0 c.self.invariant.1 in
    ap (pairs_at port) c.as_slice.ensures ∙ bag ∙ ap (λ bags. bag_at bags port) c.self.view_is

pub returns-clause-within : goal.returns-clause-within
returns-clause-within c =
    let inside = c.self.inside in
    let count = as_many inside.ports inside.sendings.items c.args.self.now c.self.view_is in
    subst (λ ports. AreWithin ports c.as_slice.result.now) (sym count)
    (subst (AreWithin inside.ports) (sym c.as_slice.ensures) c.self.invariant.0)

pub returns-clause-order : goal.returns-clause-order
returns-clause-order c = ports_rise c.as_slice.result.now (subst AreInOrder (sym c.as_slice.ensures) c.self.invariant.1)
