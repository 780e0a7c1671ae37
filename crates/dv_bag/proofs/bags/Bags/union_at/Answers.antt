use Rattle.std.proofs.Common.{◌<◌, length, set, ap, arith, subst, sym, ◌∙◌}
use Rattle.std.proofs.lemmas.Result.{on_ok_weaker}
use Rattle.dv_bag.specs.Bag.{bag_at, total, union}
use Rattle.dv_bag.specs.Bags.{GoesInAt, StandsAt, bag_in, by_port}
use Rattle.dv_bag.proofs.PortBags.{added, added_well, changed, from_port_length, kept_well, none_before, old_bag, some_other, some_united}
use Rattle.dv_bag.proofs.PortBags.{some_values}
use Rattle.dv_bag.proofs.bags.Bags.union_at.Goals as goal

pub invariant_of-self : goal.invariant_of-self
invariant_of-self c =
    let inside = c.self.inside in
    let hs = inside.held.items in
    let port = c.args.port in
    let ports = ap length c.self.view_is in
    let long = from_port_length 0 inside.ports (λ port. bag_in port hs) in
    let at = subst (StandsAt port c.in-Ok.index) c.as_slice.ensures c.in-Ok.ensures.found in
    kept_well inside.ports port hs c.self.invariant.0 c.self.invariant.1 (omega (arith, c.requires, ports, long))
    c.in-Ok.index c.deref_mut.result.now c.index-deref_mut-index.result c.deref_mut.ensures.value at c.union.new.self
    (λ b. union b c.args.values.now) (λ b. some_united b c.args.values.now) c.union.result
    c.union.ensures.ok c.union.ensures.err

pub returns-in-Ok-clause-ok : goal.returns-in-Ok-clause-ok
returns-in-Ok-clause-ok c =
    let inside = c.self.inside in
    let hs = inside.held.items in
    let port = c.args.port in
    let ports = ap length c.self.view_is in
    let long = from_port_length 0 inside.ports (λ port. bag_in port hs) in
    let lt : port < inside.ports = omega (arith, c.requires, ports, long) in
    let xs = c.deref_mut.result.now in
    let old = c.index-deref_mut-index.result in
    let at = subst (StandsAt port c.in-Ok.index) c.as_slice.ensures c.in-Ok.ensures.found in
    on_ok_weaker c.union.result
    (λ done.
    changed inside.ports port hs c.self.invariant.0 c.self.invariant.1 lt c.in-Ok.index xs old c.deref_mut.ensures.value at c.union.new.self
    ∙ ap (set (by_port inside.ports hs) port)
    (done ∙ ap (λ b. union b c.args.values.now)
    (old_bag inside.ports port hs c.self.invariant.0 c.self.invariant.1 lt c.in-Ok.index xs old c.deref_mut.ensures.value at))
    ∙ ap (λ bags. set bags port (union (bag_at bags port) c.args.values.now)) c.self.view_is)
    c.union.ensures.ok

pub invariant_of-self-in-Err : goal.invariant_of-self-in-Err
invariant_of-self-in-Err c =
    let inside = c.self.inside in
    let hs = inside.held.items in
    let port = c.args.port in
    let ports = ap length c.self.view_is in
    let long = from_port_length 0 inside.ports (λ port. bag_in port hs) in
    let at = subst (GoesInAt port c.in-Err.index) c.as_slice.ensures c.in-Err.ensures.absent in
    added_well inside.ports port hs c.self.invariant.0 c.self.invariant.1 (omega (arith, c.requires, ports, long))
    c.in-Err.index c.insert.new.self.items c.union-in-Err.new.self at c.in_ok-insert-in-Err.ensures.ok
    (subst (λ b. 0 < total b) (sym c.in_ok-union-in-Err.ensures.ok)
    (some_other _ c.args.values.now
    (some_values c.args.values.now c.is_empty.result c.is_empty.ensures.size c.if-is_empty.false)))

pub returns-in_ok-insert-in-Err-clause-ok : goal.returns-in_ok-insert-in-Err-clause-ok
returns-in_ok-insert-in-Err-clause-ok c =
    let inside = c.self.inside in
    let hs = inside.held.items in
    let port = c.args.port in
    let ports = ap length c.self.view_is in
    let long = from_port_length 0 inside.ports (λ port. bag_in port hs) in
    let lt : port < inside.ports = omega (arith, c.requires, ports, long) in
    let at = subst (GoesInAt port c.in-Err.index) c.as_slice.ensures c.in-Err.ensures.absent in
    let new = c.union-in-Err.new.self in
    added inside.ports port hs c.self.invariant.0 c.self.invariant.1 lt c.in-Err.index c.insert.new.self.items new at
    c.in_ok-insert-in-Err.ensures.ok
    ∙ ap (set (by_port inside.ports hs) port)
    (c.in_ok-union-in-Err.ensures.ok ∙ ap (λ b. union b c.args.values.now) (c.new-bag.ensures
    ∙ sym (none_before inside.ports port hs c.self.invariant.0 c.self.invariant.1 lt c.in-Err.index c.insert.new.self.items new at
    c.in_ok-insert-in-Err.ensures.ok)))
    ∙ ap (λ bags. set bags port (union (bag_at bags port) c.args.values.now)) c.self.view_is
