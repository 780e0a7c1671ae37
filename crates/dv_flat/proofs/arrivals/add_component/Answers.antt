use Rattle.std.proofs.Common.{◌+◌, ℕ, List, drop, length, map, refl, ap, sym, ◌∙◌, arith}
use Rattle.std.specs.Prelude.{fold}
use Rattle.std.proofs.lemmas.List.{at_drop_all, at_drop_more}
use Rattle.dv_bag.specs.declared.bags.PortBag.{PortBag}
use Rattle.dv_bag.proofs.PortBags.{port_below}
use Rattle.dv_bag.proofs.PortWalks.{held_fold}
use Rattle.dv_flat.specs.Ends.{port_at}
use Rattle.dv_flat.specs.Probes.{with_arrivals}
use Rattle.dv_flat.specs.declared.arrivals.Arrival.{Arrival}
use Rattle.dv_flat.specs.declared.link.ComponentPort.{ComponentPort}
use Rattle.dv_flat.proofs.arrivals.add_component.Goals as goal

-- with the arrivals of one bag
abbrev with_bag : ℕ → List (List (Arrival ComponentPort)) → PortBag → List (List (Arrival ComponentPort))
with_bag component lists h = with_arrivals (port_at component h.port) lists h.bag

pub overflow_cast-to : goal.overflow_cast-to
overflow_cast-to c =
    let below = port_below (length c.args.received.now) c.loop-held.held-index c.held-held-items.result.now c.held-item.result
    c.held-held-items.ensures.within c.loop-held-test.true in
    record { fits = omega (arith, below, ap (λ (h : PortBag). h.port) c.held-item.is, c.requires) }

pub loop-held-preserved : goal.loop-held-preserved
loop-held-preserved c =
    let k = c.args.component in
    let items = c.held-held-items.result.now in
    let i = c.loop-held.held-index in
    ap (λ ls. fold (with_bag k) ls (drop (i + 1) items)) c.in_ok-add_arrivals.ensures
    ∙ ap (λ (g : PortBag). fold (with_bag k) (with_bag k (map (λ list. list.items) c.loop-held.lists.items) g) (drop (i + 1) items))
    c.held-item.is
    ∙ sym (at_drop_more (fold (with_bag k) (map (λ list. list.items) c.loop-held.lists.items)) items i c.held-item.result
    c.loop-held-test.true)
    ∙ c.loop-held.invariant

pub returns : goal.returns
returns c =
    let k = c.args.component in
    let items = c.held-held-items.result.now in
    let first = map (λ list. list.items) c.args.lists.now.items in
    sym (at_drop_all (fold (with_bag k) (map (λ list. list.items) c.loop-held.lists.items)) items c.loop-held.held-index (omega arith))
    ∙ c.loop-held.invariant
    ∙ held_fold (λ lists port bag. with_arrivals (port_at k port) lists bag) (λ lists port. refl) (length c.args.received.now)
    c.args.received.now items first c.held-held-items.ensures.all c.held-held-items.ensures.within c.held-held-items.ensures.order
