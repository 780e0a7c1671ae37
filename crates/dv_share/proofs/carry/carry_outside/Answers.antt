use Rattle.std.proofs.Common.{◌++◌, List, nat_eq, filter, sym, ap, ◌∙◌, arith}
use Rattle.std.proofs.lemmas.List.{append-nil, append_assoc}
use Rattle.dv_conservative.specs.Links.{Delivery as Meant, Link, carried}
use Rattle.dv_share.specs.Links.{deliveries_of, links_of}
use Rattle.dv_share.specs.Rows.{carried_each}
use Rattle.dv_share.proofs.Ports.{all_below, carried_below, held_step, next_port, no_next, none_held}
use Rattle.dv_share.proofs.carry.carry_outside.Goals as goal

pub loop-held-init : goal.loop-held-init
loop-held-init c =
    let old = deliveries_of c.args.deliveries.now.items in
    let held = c.held-held-items.ensures in
    sym (ap (λ (ds : List Meant). old ++ ds)
    (none_held c.args.outside.now c.held-held-items.result.now held.all held.within held.order (links_of c.as_slice-links.result.now))
    ∙ append-nil old)

pub loop-held-preserved : goal.loop-held-preserved
loop-held-preserved c =
    let hs = c.held-held-items.result.now in
    let ls = links_of c.as_slice-links.result.now in
    let i = c.loop-held.held-index in
    let h = c.held-item.result in
    let held = c.held-held-items.ensures in
    let old = deliveries_of c.args.deliveries.now.items in
    let before = carried_below c.args.outside.now (next_port (λ h. h.port) hs i) ls in
    let more = carried_each (filter (λ l. nat_eq l.from_port h.port) ls) h.bag in
    c.in_ok-carry_held.ensures
    ∙ ap (λ (links : List Link). deliveries_of c.loop-held.deliveries.items ++ carried_each links h.bag) c.links_at.ensures
    ∙ ap (λ (ds : List Meant). ds ++ more) c.loop-held.invariant
    ∙ append_assoc old before more
    ∙ ap (λ (ds : List Meant). old ++ ds)
    (sym (held_step c.args.outside.now hs held.all held.within held.order ls i h c.as_slice-links.ensures.rise c.loop-held-test.true
    c.held-item.is))

pub returns : goal.returns
returns c =
    let hs = c.held-held-items.result.now in
    let old = deliveries_of c.args.deliveries.now.items in
    c.loop-held.invariant
    ∙ ap (λ o. old ++ carried_below c.args.outside.now o (links_of c.as_slice-links.result.now))
    (no_next (λ h. h.port) hs c.loop-held.held-index (omega arith))
    ∙ ap (λ (ds : List Meant). old ++ ds) (all_below c.args.outside.now (links_of c.as_slice-links.result.now))
    ∙ ap (λ (ls : List Link). old ++ carried ls (λ k. c.args.outside.now)) c.as_slice-links.ensures.links
