use Rattle.std.proofs.Common.{◌<◌, [], length, set, ap, arith, subst, sym, ◌∙◌}
use Rattle.std.proofs.lemmas.Int.{to_z-of_z}
use Rattle.std.proofs.lemmas.Result.{on_ok_weaker}
use mir.Syntax.{w64}
use mir.Val.{SFits}
use Rattle.dv_bag.specs.Bag.{bag_at, with_copies}
use Rattle.dv_bag.specs.Bags.{GoesInAt, StandsAt, bag_in, by_port}
use Rattle.dv_bag.proofs.PortBags.{added, added_well, changed, from_port_length, kept_well, none_before, old_bag, some_new, some_with}
use Rattle.dv_bag.proofs.bags.Bags.insert_copies.Goals as goal

pub invariant_of-self : goal.invariant_of-self
invariant_of-self c =
    let fits : SFits w64 c.args.value = c.ranges.value in
    let done = simp to_z-of_z at c.insert_copies.ensures.ok in
    let inside = c.self.inside in
    let hs = inside.held.items in
    let port = c.args.port in
    let ports = ap length c.self.view_is in
    let long = from_port_length 0 inside.ports (λ port. bag_in port hs) in
    let at = subst (StandsAt port c.in-Ok.index) c.as_slice.ensures c.in-Ok.ensures.found in
    kept_well inside.ports port hs c.self.invariant.0 c.self.invariant.1 (omega (arith, c.requires, ports, long))
    c.in-Ok.index c.deref_mut.result.now c.index-deref_mut-index.result c.deref_mut.ensures.value at c.insert_copies.new.self
    (with_copies c.args.value c.args.copies) (λ b. some_with c.args.value c.args.copies b) c.insert_copies.result
    done c.insert_copies.ensures.err

pub returns-in-Ok-clause-ok : goal.returns-in-Ok-clause-ok
returns-in-Ok-clause-ok c =
    let fits : SFits w64 c.args.value = c.ranges.value in
    let done = simp to_z-of_z at c.insert_copies.ensures.ok in
    let inside = c.self.inside in
    let hs = inside.held.items in
    let port = c.args.port in
    let ports = ap length c.self.view_is in
    let long = from_port_length 0 inside.ports (λ port. bag_in port hs) in
    let lt : port < inside.ports = omega (arith, c.requires, ports, long) in
    let xs = c.deref_mut.result.now in
    let old = c.index-deref_mut-index.result in
    let at = subst (StandsAt port c.in-Ok.index) c.as_slice.ensures c.in-Ok.ensures.found in
    on_ok_weaker c.insert_copies.result
    (λ more.
    changed inside.ports port hs c.self.invariant.0 c.self.invariant.1 lt c.in-Ok.index xs old c.deref_mut.ensures.value at
    c.insert_copies.new.self
    ∙ ap (set (by_port inside.ports hs) port)
    (more ∙ ap (with_copies c.args.value c.args.copies)
    (old_bag inside.ports port hs c.self.invariant.0 c.self.invariant.1 lt c.in-Ok.index xs old c.deref_mut.ensures.value at))
    ∙ ap (λ bags. set bags port (with_copies c.args.value c.args.copies (bag_at bags port))) c.self.view_is)
    done

pub invariant_of-self-in-Err : goal.invariant_of-self-in-Err
invariant_of-self-in-Err c =
    let fits : SFits w64 c.args.value = c.ranges.value in
    let put = simp to_z-of_z at c.in_ok-put_copies-in-Err.ensures.ok in
    let inside = c.self.inside in
    let hs = inside.held.items in
    let port = c.args.port in
    let ports = ap length c.self.view_is in
    let long = from_port_length 0 inside.ports (λ port. bag_in port hs) in
    let at = subst (GoesInAt port c.in-Err.index) c.as_slice.ensures c.in-Err.ensures.absent in
    added_well inside.ports port hs c.self.invariant.0 c.self.invariant.1 (omega (arith, c.requires, ports, long))
    c.in-Err.index c.put_copies.new.held.items (with_copies c.args.value c.args.copies []) at put
    (some_new c.args.value c.args.copies [] (omega (arith, c.if-copies-eq0.false)))

pub returns-in_ok-put_copies-in-Err-clause-ok : goal.returns-in_ok-put_copies-in-Err-clause-ok
returns-in_ok-put_copies-in-Err-clause-ok c =
    let fits : SFits w64 c.args.value = c.ranges.value in
    let put = simp to_z-of_z at c.in_ok-put_copies-in-Err.ensures.ok in
    let inside = c.self.inside in
    let hs = inside.held.items in
    let port = c.args.port in
    let ports = ap length c.self.view_is in
    let long = from_port_length 0 inside.ports (λ port. bag_in port hs) in
    let lt : port < inside.ports = omega (arith, c.requires, ports, long) in
    let at = subst (GoesInAt port c.in-Err.index) c.as_slice.ensures c.in-Err.ensures.absent in
    let new = with_copies c.args.value c.args.copies [] in
    added inside.ports port hs c.self.invariant.0 c.self.invariant.1 lt c.in-Err.index c.put_copies.new.held.items new at
    put
    ∙ ap (set (by_port inside.ports hs) port)
    (ap (with_copies c.args.value c.args.copies)
    (sym (none_before inside.ports port hs c.self.invariant.0 c.self.invariant.1 lt c.in-Err.index c.put_copies.new.held.items new at
    put)))
    ∙ ap (λ bags. set bags port (with_copies c.args.value c.args.copies (bag_at bags port))) c.self.view_is
