use Rattle.std.proofs.Common.{◌≡◌, ◌∙◌, ◌++◌, List, ap, subst}
use Rattle.std.proofs.lemmas.List.{append_assoc, map-append}
use Rattle.std.proofs.lemmas.Result.{on_ok_weaker}
use Rattle.dv_conservative.specs.Links.{Delivery as Meant, carried}
use Rattle.dv_share.specs.Links.{deliveries_of, delivery_of}
use Rattle.dv_share.specs.Share.{AreReceived, sent_in}
use Rattle.dv_share.specs.declared.link.Delivery.{Delivery}
use Rattle.dv_share.specs.declared.tables.Member.{Member}
use Rattle.dv_share.proofs.Sums.{received_moved}
use Rattle.dv_share.proofs.arrival.gather_many.Goals as goal

pub returns-clause-received : goal.returns-clause-received
returns-clause-received g c =
    let t = c.args.tables.now in
    let ms = t.members.items in
    let es = c.args.emitted.now in
    let ds = c.args.deliveries.now in
    let entered : List Meant = deliveries_of c.args.incoming.now.items in
    let led : List Meant = carried t.links (sent_in ms es) in
    let two : deliveries_of c.carry_emitted.new.deliveries.items ≡ entered ++ led =
    c.in_ok-carry_emitted.ensures
    ∙ ap (λ (ms : List Member). entered ++ carried t.links (sent_in ms es)) c.deref.ensures.value in
    let three : deliveries_of c.extend_from_slice.new.self.items ≡ entered ++ (led ++ deliveries_of ds) =
    ap deliveries_of c.in_ok-extend_from_slice.ensures.items
    ∙ map-append delivery_of c.carry_emitted.new.deliveries.items ds
    ∙ ap (λ (es : List Meant). es ++ deliveries_of ds) two
    ∙ append_assoc entered led (deliveries_of ds) in
    let after = c.put_many_in_order.new.deliveries.items in
    on_ok_weaker c.gather.result
    (λ h.
    subst (λ (ds : List Meant). AreReceived ms ds c.gather.new.self.items) three
    (received_moved ms after c.extend_from_slice.new.self.items c.gather.new.self.items c.in_ok-put_many_in_order.ensures
    (subst (λ (ms : List Member). AreReceived ms (deliveries_of after) c.gather.new.self.items) c.deref-2.ensures.value
    (subst (λ (ds : List Delivery). AreReceived c.deref-2.result.now (deliveries_of ds) c.gather.new.self.items) c.deref-3.ensures.value h))))
    c.gather.ensures.received
