use Rattle.std.proofs.Common.{◌≡◌, ◌∙◌, ◌++◌, List, ap, subst}
use Rattle.std.proofs.lemmas.Result.{on_ok_weaker}
use Rattle.dv_conservative.specs.Links.{Delivery as Meant, carried}
use Rattle.dv_share.specs.Links.{deliveries_of}
use Rattle.dv_share.specs.Share.{AreReceived, sent_in}
use Rattle.dv_share.specs.declared.link.Delivery.{Delivery}
use Rattle.dv_share.specs.declared.tables.Member.{Member}
use Rattle.dv_share.proofs.arrival.arrivals.Goals as goal

pub returns-then-deliveries-le-FEW-clause-received : goal.returns-then-deliveries-le-FEW-clause-received
returns-then-deliveries-le-FEW-clause-received g c =
    let t = c.args.tables.now in
    let ms = t.members.items in
    let es = c.args.emitted.now in
    let ds = deliveries_of c.args.deliveries.now in
    let entered : List Meant = carried t.entrances (λ k. c.args.outside.now) in
    let xs = c.gather_along.new.self.items in
    let one : deliveries_of c.carry_outside.new.deliveries.items ≡ entered =
    c.in_ok-carry_outside.ensures
    ∙ ap (λ (ds : List Delivery). deliveries_of ds ++ entered) c.clear.ensures.items in
    on_ok_weaker c.gather_along.result
    (λ h.
    subst (λ (ins : List Meant). AreReceived ms (ins ++ (carried t.links (sent_in ms es) ++ ds)) xs) one
    (subst (λ (ins : List Delivery). AreReceived ms (deliveries_of ins ++ (carried t.links (sent_in ms es) ++ ds)) xs) c.deref-then-deliveries-le-FEW.ensures.value
    (subst (λ (ms : List Member). AreReceived ms (deliveries_of c.deref-then-deliveries-le-FEW.result.now ++ (carried t.links (sent_in ms es) ++ ds)) xs)
    c.deref.ensures.value h)))
    c.gather_along.ensures.received

pub returns-clause-received : goal.returns-clause-received
returns-clause-received g c =
    let t = c.args.tables.now in
    let ms = t.members.items in
    let es = c.args.emitted.now in
    let ds = deliveries_of c.args.deliveries.now in
    let entered : List Meant = carried t.entrances (λ k. c.args.outside.now) in
    let one : deliveries_of c.carry_outside.new.deliveries.items ≡ entered =
    c.in_ok-carry_outside.ensures
    ∙ ap (λ (ds : List Delivery). deliveries_of ds ++ entered) c.clear.ensures.items in
    on_ok_weaker c.gather_many.result
    (λ h.
    subst (λ (ins : List Meant). AreReceived ms (ins ++ (carried t.links (sent_in ms es) ++ ds)) c.gather_many.new.received.items) one h)
    c.gather_many.ensures.received
