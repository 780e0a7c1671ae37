use Rattle.std.proofs.Common.{◌++◌}
use Rattle.dv_flat.specs.Probes.{links_to}
use Rattle.dv_flat.proofs.ArrivalLists.{links_added}
use Rattle.dv_flat.proofs.links.add_links.Goals as goal

pub loop-arrival-preserved : goal.loop-arrival-preserved
loop-arrival-preserved g c =
    let at = c.loop-arrival in
    links_added c.args.from c.args.arrivals.now at.arrival-index c.arrival-item.result at.links.items c.push.new.self.items
    (c.args.links.now.items ++ links_to c.args.from c.args.arrivals.now) c.loop-arrival-test.true c.arrival-item.is
    c.in_ok-push.ensures.items at.invariant
