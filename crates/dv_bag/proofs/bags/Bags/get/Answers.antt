use Rattle.std.proofs.Common.{get_or, ap, sym, subst, ◌∙◌}
use Rattle.dv_bag.specs.Bag.{bag_at}
use Rattle.dv_bag.specs.Bags.{GoesInAt, StandsAt}
use Rattle.dv_bag.proofs.PortBags.{absent_bag, bag_of_port, standing_bag}
use Rattle.dv_bag.proofs.bags.Bags.get.Goals as goal

pub returns-in-Ok : goal.returns-in-Ok
returns-in-Ok c =
    let inside = c.self.inside in
    let hs = inside.held.items in
    let port = c.args.port in
    let at = subst (StandsAt port c.in-Ok.index) c.as_slice.ensures c.in-Ok.ensures.found in
    ap (λ bags. (get_or bags c.in-Ok.index c.index-deref-index.result).bag) c.deref.ensures
    ∙ sym (standing_bag 0 port c.in-Ok.index hs c.index-deref-index.result c.self.invariant.1 at)
    ∙ sym (bag_of_port inside.ports port hs c.self.invariant.0)
    ∙ ap (λ bags. bag_at bags port) c.self.view_is

pub returns-in-Err : goal.returns-in-Err
returns-in-Err c =
    let inside = c.self.inside in
    let hs = inside.held.items in
    let port = c.args.port in
    let at = subst (GoesInAt port c.in-Err.field-0) c.as_slice.ensures c.in-Err.ensures.absent in
    sym (absent_bag port c.in-Err.field-0 hs at)
    ∙ sym (bag_of_port inside.ports port hs c.self.invariant.0)
    ∙ ap (λ bags. bag_at bags port) c.self.view_is
