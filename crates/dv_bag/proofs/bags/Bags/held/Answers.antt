use Rattle.std.proofs.Common.{◌≡◌, ℕ, List, length, ap, sym, ◌∙◌, subst}
use Rattle.dv_bag.specs.Bag.{Counts}
use Rattle.dv_bag.specs.Bags.{AreWithin, bag_in, by_port}
use Rattle.dv_bag.specs.declared.bags.PortBag.{PortBag}
use Rattle.dv_bag.proofs.PortBags.{from_port_length}
use Rattle.dv_bag.proofs.bags.Bags.held.Goals as goal

-- as many ports as the value has bags
as_many : (ports : ℕ) (items : List PortBag) (bags : List Counts) → by_port ports items ≡ bags → length bags ≡ ports
as_many ports items bags is = sym (ap length is) ∙ from_port_length 0 ports (λ port. bag_in port items)

pub returns-clause-all : goal.returns-clause-all
returns-clause-all c =
    let inside = c.self.inside in
    let count = as_many inside.ports inside.held.items c.args.self.now c.self.view_is in
    ap (λ ports. by_port ports c.as_slice.result.now) count ∙ ap (by_port inside.ports) c.as_slice.ensures ∙ c.self.view_is

pub returns-clause-within : goal.returns-clause-within
returns-clause-within c =
    let inside = c.self.inside in
    let count = as_many inside.ports inside.held.items c.args.self.now c.self.view_is in
    subst (λ ports. AreWithin ports c.as_slice.result.now) (sym count)
    (subst (AreWithin inside.ports) (sym c.as_slice.ensures) c.self.invariant.0)
