use Rattle.std.proofs.Common.{◌∙◌, arith}
use Rattle.std.proofs.lemmas.Int.{ints}
use Rattle.dv_flat.proofs.ProbeLists.{port_within, probe_put}
use Rattle.dv_flat.proofs.probes.come_probes.Goals as goal

pub insert-requires : goal.insert-requires
insert-requires c =
    port_within c.args.first c.loop-port.port c.args.ports c.loop-port.input c.loop-port-test.true c.loop-port.invariant

pub loop-port-preserved : goal.loop-port-preserved
loop-port-preserved c =
    c.in_ok-insert.ensures.ok
    ∙ probe_put c.args.first c.loop-port.port c.args.ports _ c.loop-port.input c.loop-port-test.true (omega (arith, ints))
    c.loop-port.invariant
