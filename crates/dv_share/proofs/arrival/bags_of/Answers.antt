use Rattle.std.proofs.Common.{◌≡◌, ◌∙◌, ◌+◌, ◌<◌, List, [], ◌∷◌, ◌++◌, length, get_or, set, take, ap, sym, pos, true, false, arith}
use Rattle.std.proofs.lemmas.List.{take_more, map-append}
use Rattle.dv_bag.specs.Bag.{Counts, with_copies}
use Rattle.dv_conservative.specs.Links.{Delivery as Meant, inbox}
use Rattle.dv_share.specs.Links.{deliveries_of, delivery_of}
use Rattle.dv_share.specs.declared.link.Delivery.{Delivery}
use Rattle.dv_share.proofs.Inboxes.{inbox_missed, inbox_length, inbox_nothing, inbox_step}
use Rattle.dv_share.proofs.arrival.bags_of.Goals.{then-is_for+in_ok-put, else-is_for}
use Rattle.dv_share.proofs.arrival.bags_of.Goals as goal

pub loop-delivery-init : goal.loop-delivery-init
loop-delivery-init c = c.empty-bags.ensures ∙ sym (inbox_nothing c.args.component 0 c.args.ports)

pub put-requires : goal.put-requires
put-requires c =
    omega (
      arith,
      ap length c.loop-delivery.invariant,
      inbox_length c.args.component (deliveries_of (take c.loop-delivery.delivery-index c.args.deliveries.now)) 0 c.args.ports,
      (c.is_for.ensures.0 c.if-is_for.true).1,
    )

true_false : true ≡ false → ⊥
true_false h = cc

none : Delivery
none = record { component = 0; port = 0; value = pos 0; copies = 0 }

pub loop-delivery-preserved : goal.loop-delivery-preserved
unfolding none
loop-delivery-preserved c =
    let k = c.args.component in
    let ds = c.args.deliveries.now in
    let i = c.loop-delivery.delivery-index in
    let d = get_or ds i none in
    let before = deliveries_of (take i ds) in
    let early : i < length ds = omega arith in
    let more : deliveries_of (take (i + 1) ds) ≡ before ++ delivery_of d ∷ [] =
    ap deliveries_of (take_more ds i none early) ∙ map-append delivery_of (take i ds) (d ∷ []) in
    let next = ap (λ (es : List Meant). inbox k es 0 c.args.ports) more in
    elim c.if-is_for.branch [
      | then-is_for+in_ok-put w ↦
          w.bags-is
          ∙ w.in_ok-put.ensures
          ∙ ap (λ (bags : List Counts). set bags d.port (with_copies d.value d.copies (get_or bags d.port []))) c.loop-delivery.invariant
          ∙ sym (inbox_step k before (delivery_of d) 0 c.args.ports d.port (c.is_for.ensures.0 w.if-is_for.true).0 (omega arith))
          ∙ sym next
      | else-is_for w ↦
          w.bags-is
          ∙ c.loop-delivery.invariant
          ∙ sym (inbox_missed k before (delivery_of d) 0 c.args.ports
          (λ port le lt own e. true_false (sym (c.is_for.ensures.1 (own, omega (arith, lt, e))) ∙ w.if-is_for.false)))
          ∙ sym next
    ]
