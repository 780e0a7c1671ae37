use Rattle.std.proofs.Common.{◌≡◌, ◌+◌, ◌<◌, ◌∷◌, [], List, length, get_or, drop, pos, sym, ap, ◌∙◌, subst, arith, rules}
use Rattle.dv_bag.specs.declared.sent.Sending.{Sending}
use Rattle.dv_conservative.specs.Links.{Delivery as Meant, carried_by}
use Rattle.dv_share.specs.Links.{carried_one, delivery_of, link_of, pairs_of}
use Rattle.dv_share.specs.Received.{HasTaken}
use Rattle.std.proofs.lemmas.List.{drop_all}
use Rattle.dv_share.proofs.Carrying.{drop_at}
use Rattle.dv_share.proofs.Taking.{ready_after, taken_both, taken_none}
use Rattle.dv_share.proofs.received.Received.deliver_sendings.Goals as goal

none : Sending
none = record { port = 0; value = pos 0; copies = 0 }

pub loop-sending-preserved : goal.loop-sending-preserved
unfolding none
loop-sending-preserved c =
    let ms = c.args.members.now in
    let ss = c.args.sendings.now in
    let i = c.loop-sending.sending-index in
    let l = link_of c.args.link.now in
    let d = delivery_of c.delivery.result in
    let rest = carried_by l (pairs_of (drop (i + 1) ss)) in
    let old = c.loop-sending.self in
    let new = c.deliver.new.self in
    let early : i < length ss = omega arith in
    let one : HasTaken ms (d ∷ []) old new =
    record {
      room = c.deliver.ensures.room;
      gathered = c.in_ok-deliver.ensures.gathered;
      among = c.in_ok-deliver.ensures.among;
      touched = c.in_ok-deliver.ensures.touched;
    } in
    let s = get_or ss i none in
    let made : d ≡ carried_one l s.value s.copies = search rules in
    let whole : carried_by l (pairs_of (drop i ss)) ≡ d ∷ rest =
    ap (λ (xs : List Sending). carried_by l (pairs_of xs)) (drop_at ss i none early)
    ∙ ap (λ (e : Meant). e ∷ rest) (sym made) in
    record {
      ready = ready_after ms (d ∷ []) old new one c.loop-sending.invariant.ready;
      rest = λ r h.
          c.loop-sending.invariant.rest r
          (subst (λ (ds : List Meant). HasTaken ms ds old r) (sym whole) (taken_both ms (d ∷ []) rest old new r one h));
    }

pub returns : goal.returns
returns c =
    let ms = c.args.members.now in
    let xs = c.args.sendings.now in
    let self = c.loop-sending.self in
    c.loop-sending.invariant.rest self
    (subst (λ (xs : List Sending). HasTaken ms (carried_by (link_of c.args.link.now) (pairs_of xs)) self self)
    (sym (drop_all c.loop-sending.sending-index xs c.loop-sending-test.false)) (taken_none ms self))
