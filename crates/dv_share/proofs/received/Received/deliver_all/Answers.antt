use Rattle.std.proofs.Common.{◌≡◌, ◌∙◌, ◌+◌, ◌<◌, ◌∷◌, [], ◌++◌, List, length, get_or, take, sym, ap, subst, pos, arith}
use Rattle.std.proofs.lemmas.List.{append_assoc, map-append, take_all, take_more}
use Rattle.dv_conservative.specs.Links.{Delivery as Meant}
use Rattle.dv_share.specs.Links.{deliveries_of, delivery_of}
use Rattle.dv_share.specs.Received.{AreGathered}
use Rattle.dv_share.specs.declared.link.Delivery.{Delivery}
use Rattle.dv_share.proofs.received.Received.deliver_all.Goals as goal

none : Delivery
none = record { component = 0; port = 0; value = pos 0; copies = 0 }

pub deliver-requires-clause-gathered : goal.deliver-requires-clause-gathered
deliver-requires-clause-gathered c =
    let ds = c.requires.gathered.0 in
    let before = deliveries_of (take c.loop-delivery.delivery-index c.args.deliveries.now) in
    (ds ++ before, c.loop-delivery.invariant.gathered ds c.requires.gathered.1)

pub loop-delivery-preserved : goal.loop-delivery-preserved
unfolding none
loop-delivery-preserved c =
    let ms = c.args.members.now in
    let xs = c.args.deliveries.now in
    let i = c.loop-delivery.delivery-index in
    let early : i < length xs = omega arith in
    let d = get_or xs i none in
    let inv = c.loop-delivery.invariant in
    let one = c.in_ok-deliver.ensures in
    record {
      room = one.room ∙ inv.room;
      gathered = λ ds h.
          let more : ds ++ deliveries_of (take (i + 1) xs) ≡ (ds ++ deliveries_of (take i xs)) ++ delivery_of d ∷ [] =
          ap (λ (es : List Delivery). ds ++ deliveries_of es) (take_more xs i none early)
          ∙ ap (λ (es : List Meant). ds ++ es) (map-append delivery_of (take i xs) (d ∷ []))
          ∙ sym (append_assoc ds (deliveries_of (take i xs)) (delivery_of d ∷ [])) in
          subst (λ (es : List Meant). AreGathered ms es c.deliver.new.self.items) (sym more)
          (one.gathered (ds ++ deliveries_of (take i xs)) (inv.gathered ds h));
      among = λ p here. one.among p (inv.among p here);
      touched = λ ps h. one.touched ps (inv.touched ps h);
    }

pub returns-clause-gathered : goal.returns-clause-gathered
returns-clause-gathered c ds h =
    let xs = c.args.deliveries.now in
    subst (λ (es : List Delivery). AreGathered c.args.members.now (ds ++ deliveries_of es) c.loop-delivery.self.items)
    (take_all c.loop-delivery.delivery-index xs c.loop-delivery-test.false) (c.loop-delivery.invariant.gathered ds h)
