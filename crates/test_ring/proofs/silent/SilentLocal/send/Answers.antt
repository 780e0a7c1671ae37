use Rattle.dv_proc.specs.Packets.{meant_events}
use Rattle.test_ring.proofs.Silence.{sends}
use Rattle.test_ring.proofs.silent.SilentLocal.send.Goals as goal

pub returns : goal.returns
returns c = λ out there. sends c.args.self.now c.args._now out (meant_events c.args._into.now.items)
