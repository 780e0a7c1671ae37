use Rattle.std.proofs.Common.{[], nat_eq, ap, sym, ◌∙◌}
use Rattle.std.proofs.lemmas.Bool.{eqb-true}
use Rattle.std.proofs.lemmas.List.{nil_from_length}
use Rattle.dv_bag.specs.Bag.{bag_at, size_of_all}
use Rattle.dv_bag.specs.Bags.{by_port}
use Rattle.dv_bag.proofs.PortBags.{bag_of_port, none_or_some}
use Rattle.dv_bag.proofs.bags.Bags.is_empty.Goals as goal

pub returns-clause-none : goal.returns-clause-none
returns-clause-none c empty port =
    let inside = c.self.inside in
    let none = nil_from_length inside.held.items (eqb-true _ 0 (sym c.is_empty.ensures ∙ empty)) in
    ap (λ bags. bag_at bags port) (sym c.self.view_is)
    ∙ ap (λ hs. bag_at (by_port inside.ports hs) port) none
    ∙ bag_of_port inside.ports port [] tt

pub returns-clause-size : goal.returns-clause-size
returns-clause-size c = c.is_empty.ensures ∙ none_or_some c.self.inside.ports c.self.inside.held.items c.self.invariant.0
    ∙ ap (λ bags. nat_eq (size_of_all bags) 0) c.self.view_is
