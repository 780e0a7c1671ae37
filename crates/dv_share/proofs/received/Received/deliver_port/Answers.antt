use Rattle.std.proofs.Common.{◌≡◌, ◌+◌, ◌<◌, ◌++◌, ◌∷◌, [], List, length, get_or, drop, pos, sym, ap, subst, arith}
use Rattle.dv_conservative.specs.Links.{Delivery as Meant, carried_by}
use Rattle.dv_share.specs.Links.{link_of, links_of, pairs_of}
use Rattle.dv_share.specs.Received.{HasTaken}
use Rattle.dv_share.specs.Rows.{carried_each}
use Rattle.dv_share.specs.declared.link.Link.{Link}
use Rattle.std.proofs.lemmas.List.{drop_all}
use Rattle.std.proofs.lemmas.Result.{on_ok_weaker}
use Rattle.dv_bag.specs.declared.sent.Sending.{Sending}
use Rattle.dv_share.proofs.Carrying.{drop_at, only_one}
use Rattle.dv_share.proofs.Taking.{ready_after, taken_both, taken_none}
use Rattle.dv_share.proofs.received.Received.deliver_port.Goals as goal

none : Link
none = record { from = 0; from_port = 0; to = 0; to_port = 0; copies = 0 }

pub loop-link-preserved : goal.loop-link-preserved
unfolding none
loop-link-preserved c =
    let ms = c.args.members.now in
    let ls = c.args.links.now in
    let i = c.loop-link.link-index in
    let l = get_or ls i none in
    let pairs = pairs_of c.args.sendings.now in
    let first = carried_by (link_of l) pairs in
    let rest = carried_each (links_of (drop (i + 1) ls)) pairs in
    let old = c.loop-link.self in
    let new = c.deliver_sendings.new.self in
    let early : i < length ls = omega arith in
    let one = c.in_ok-deliver_sendings.ensures in
    let whole : carried_each (links_of (drop i ls)) pairs ≡ first ++ rest =
    ap (λ (xs : List Link). carried_each (links_of xs) pairs) (drop_at ls i none early) in
    record {
      ready = ready_after ms first old new one c.loop-link.invariant.ready;
      rest = λ r h.
          c.loop-link.invariant.rest r
          (subst (λ (ds : List Meant). HasTaken ms ds old r) (sym whole) (taken_both ms first rest old new r one h));
    }

pub returns : goal.returns
returns c =
    let ms = c.args.members.now in
    let xs = c.args.links.now in
    let self = c.loop-link.self in
    c.loop-link.invariant.rest self
    (subst (λ (xs : List Link). HasTaken ms (carried_each (links_of xs) (pairs_of c.args.sendings.now)) self self)
    (sym (drop_all c.loop-link.link-index xs c.loop-link-test.false)) (taken_none ms self))

first : Sending
first = record { port = 0; value = pos 0; copies = 0 }

pub returns-then-sendings-eq1 : goal.returns-then-sendings-eq1
unfolding first
returns-then-sendings-eq1 c =
    let ms = c.args.members.now in
    let ls = links_of c.args.links.now in
    let ss = c.args.sendings.now in
    let one : ss ≡ get_or ss 0 first ∷ [] = only_one ss first c.if-sendings-eq1.true in
    on_ok_weaker c.deliver_one.result
    (λ h.
    subst (λ (ss : List Sending). HasTaken ms (carried_each ls (pairs_of ss)) c.args.self.now c.deliver_one.new.self) (sym one) h)
    c.deliver_one.ensures
