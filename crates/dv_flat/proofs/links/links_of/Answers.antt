use Rattle.std.proofs.Common.{arith, map}
use Rattle.dv_flat.specs.Probes.{links_of}
use Rattle.dv_flat.proofs.ArrivalLists.{links_step}
use Rattle.dv_flat.proofs.links.links_of.Goals as goal

pub loop-probe-preserved : goal.loop-probe-preserved
loop-probe-preserved g c =
    let at = c.loop-probe in
    let arrivals = c.args.arrivals.now in
    links_step (λ list. list.items) arrivals c.args.first at.probe c.args.sources.now c.index-sources-probe.result
    c.index-arrivals-first.result at.links.items c.add_links.new.links.items
    (links_of (map (λ list. list.items) arrivals) c.args.first c.args.sources.now) c.loop-probe-test.true
    c.index-sources-probe.is (omega (arith, c.loop-probe-test.true, c.requires)) c.index-arrivals-first.is
    (rw (← c.deref.ensures.value) c.in_ok-add_links.ensures) at.invariant
