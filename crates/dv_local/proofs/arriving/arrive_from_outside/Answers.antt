use Rattle.std.proofs.Common.{List, subst}
use Rattle.std.proofs.lemmas.Result.{on_ok_weaker}
use Rattle.dv_bag.specs.Bag.{Counts}
use Rattle.dv_share.specs.Links.{deliveries_of}
use Rattle.dv_share.specs.Share.{AreReceived, coming}
use Rattle.dv_local.proofs.arriving.arrive_from_outside.Goals as goal

pub returns-clause-received : goal.returns-clause-received
returns-clause-received g c =
    let t = c.args.share.now.tables in
    let es = c.args.emitted.now in
    let xs = c.arrivals.new.received.items in
    on_ok_weaker c.arrivals.result
    (λ h limit run.
    subst (λ (bags : List Counts). AreReceived t.members.items (coming t es bags (deliveries_of c.args.deliveries.now)) xs)
    (c.in_ok-outside.ensures limit run) h)
    c.arrivals.ensures.received
