use Rattle.dv_proc.specs.Packets.{meant_events}
use Rattle.test_ring.proofs.Silence.{kept}
use Rattle.test_ring.proofs.silent.SilentLocal.keep.Goals as goal

pub returns-clause-kept : goal.returns-clause-kept
returns-clause-kept c = kept c.args.self.now (meant_events c.args._events.now) c.requires.ports
