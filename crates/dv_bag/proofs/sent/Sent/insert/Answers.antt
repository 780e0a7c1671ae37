use Rattle.std.proofs.Common.{length, set, ap, arith, ◌∙◌}
use Rattle.std.proofs.lemmas.Int.{to_z-of_z}
use Rattle.dv_bag.specs.Bag.{bag_at, with_copies}
use Rattle.dv_bag.specs.Sent.{by_port}
use Rattle.dv_bag.proofs.SendingOrder.{found, found_within, put, put_within}
use Rattle.dv_bag.proofs.Sendings.{from_port_length, one_more}
use Rattle.dv_bag.proofs.sent.Sent.insert.Goals as goal

pub invariant_of-self : goal.invariant_of-self
invariant_of-self c =
    let inside = c.self.inside in
    let ports = ap length c.self.view_is in
    let long = from_port_length 0 inside.ports inside.sendings.items in
    let at = rw c.as_slice.ensures at c.in-Ok.ensures.found in
    let both = found_within inside.ports c.args.port c.args.value _ inside.sendings.items (to_z-of_z _ _ c.ranges.value)
    c.self.invariant.0 (omega arith) _ c.in-Ok.index _ c.deref_mut.ensures.value
    (omega (arith, c.saturating_add-copies.ensures)) (omega (arith, c.saturating_add-copies.ensures)) c.self.invariant.1
    at in
    let now = found inside.ports c.args.port c.args.value _ inside.sendings.items (to_z-of_z _ _ c.ranges.value)
    c.self.invariant.0 (omega (arith, ports, long, c.requires)) _ _ c.in-Ok.index _ c.deref_mut.ensures.value c.deref.ensures
    at c.saturating_add-copies.ensures in (
      both.0,
      both.1,
      c.saturating_add-self-inside.ensures
          ∙ one_more c.args.port c.args.value (by_port inside.ports inside.sendings.items) _ inside.total
          (omega (arith, ports, long, c.requires)) now c.self.invariant.2,
    )

pub returns-in-Ok-clause-ok : goal.returns-in-Ok-clause-ok
returns-in-Ok-clause-ok c =
    let inside = c.self.inside in
    let ports = ap length c.self.view_is in
    let long = from_port_length 0 inside.ports inside.sendings.items in
    found inside.ports c.args.port c.args.value _ inside.sendings.items (to_z-of_z _ _ c.ranges.value)
    c.self.invariant.0 (omega arith) _ _ c.in-Ok.index _ c.deref_mut.ensures.value c.deref.ensures
    (rw c.as_slice.ensures at c.in-Ok.ensures.found) c.saturating_add-copies.ensures
    ∙ ap (λ bags. set bags c.args.port (with_copies c.args.value 1 (bag_at bags c.args.port))) c.self.view_is

pub invariant_of-self-in-Err : goal.invariant_of-self-in-Err
invariant_of-self-in-Err c =
    let inside = c.self.inside in
    let ports = ap length c.self.view_is in
    let long = from_port_length 0 inside.ports inside.sendings.items in
    let at = rw c.as_slice.ensures at c.in-Err.ensures.absent in
    let both = put_within inside.ports c.args.port c.args.value _ inside.sendings.items (to_z-of_z _ _ c.ranges.value)
    c.self.invariant.0 (omega arith) c.in-Err.index _ c.in_ok-put-in-Err.ensures.ok c.self.invariant.1 at in
    let now = put inside.ports c.args.port c.args.value _ inside.sendings.items (to_z-of_z _ _ c.ranges.value)
    c.self.invariant.0 (omega arith) c.in-Err.index _ c.in_ok-put-in-Err.ensures.ok in (
      both.0,
      both.1,
      c.saturating_add-self-inside-in-Err.ensures
          ∙ one_more c.args.port c.args.value (by_port inside.ports inside.sendings.items) _ inside.total
          (omega (arith, ports, long, c.requires)) now c.self.invariant.2,
    )

pub returns-in_ok-put-in-Err-clause-ok : goal.returns-in_ok-put-in-Err-clause-ok
returns-in_ok-put-in-Err-clause-ok c =
    let inside = c.self.inside in
    let ports = ap length c.self.view_is in
    let long = from_port_length 0 inside.ports inside.sendings.items in
    put inside.ports c.args.port c.args.value _ inside.sendings.items (to_z-of_z _ _ c.ranges.value)
    c.self.invariant.0 (omega arith) c.in-Err.index _ c.in_ok-put-in-Err.ensures.ok
    ∙ ap (λ bags. set bags c.args.port (with_copies c.args.value 1 (bag_at bags c.args.port))) c.self.view_is
