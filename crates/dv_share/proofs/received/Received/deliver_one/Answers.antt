use Rattle.std.proofs.Common.{◌≡◌, ◌+◌, ◌<◌, ◌∷◌, [], List, length, get_or, drop, sym, ap, ◌∙◌, subst, arith, rules}
use Rattle.std.proofs.lemmas.List.{drop_all}
use Rattle.dv_bag.specs.Bag.{Counts}
use Rattle.dv_conservative.specs.Links.{Delivery as Meant}
use Rattle.dv_share.specs.Links.{carried_one, delivery_of, link_of, links_of}
use Rattle.dv_share.specs.Received.{HasTaken}
use Rattle.dv_share.specs.Rows.{carried_each}
use Rattle.dv_share.specs.declared.link.Link.{Link}
use Rattle.dv_share.proofs.Carrying.{drop_at}
use Rattle.dv_share.proofs.Taking.{ready_after, taken_both, taken_none}
use Rattle.dv_share.proofs.received.Received.deliver_one.Goals as goal

none : Link
none = record { from = 0; from_port = 0; to = 0; to_port = 0; copies = 0 }

pub loop-link-preserved : goal.loop-link-preserved
unfolding none
loop-link-preserved c =
    let ms = c.args.members.now in
    let ls = c.args.links.now in
    let i = c.loop-link.link-index in
    let pairs : Counts = (c.args.sending.value, c.args.sending.copies) ∷ [] in
    let d = delivery_of c.delivery.result in
    let rest = carried_each (links_of (drop (i + 1) ls)) pairs in
    let old = c.loop-link.self in
    let new = c.deliver.new.self in
    let early : i < length ls = omega arith in
    let one : HasTaken ms (d ∷ []) old new =
    record {
      room = c.deliver.ensures.room;
      gathered = c.in_ok-deliver.ensures.gathered;
      among = c.in_ok-deliver.ensures.among;
      touched = c.in_ok-deliver.ensures.touched;
    } in
    let l = link_of (get_or ls i none) in
    let made : d ≡ carried_one l c.args.sending.value c.args.sending.copies = search rules in
    let whole : carried_each (links_of (drop i ls)) pairs ≡ d ∷ rest =
    ap (λ (xs : List Link). carried_each (links_of xs) pairs) (drop_at ls i none early)
    ∙ ap (λ (e : Meant). e ∷ rest) (sym made) in
    record {
      ready = ready_after ms (d ∷ []) old new one c.loop-link.invariant.ready;
      rest = λ r h.
          c.loop-link.invariant.rest r
          (subst (λ (ds : List Meant). HasTaken ms ds old r) (sym whole) (taken_both ms (d ∷ []) rest old new r one h));
    }

pub returns : goal.returns
returns c =
    let ms = c.args.members.now in
    let ls = c.args.links.now in
    let self = c.loop-link.self in
    let pairs : Counts = (c.args.sending.value, c.args.sending.copies) ∷ [] in
    c.loop-link.invariant.rest self
    (subst (λ (xs : List Link). HasTaken ms (carried_each (links_of xs) pairs) self self)
    (sym (drop_all c.loop-link.link-index ls c.loop-link-test.false)) (taken_none ms self))
