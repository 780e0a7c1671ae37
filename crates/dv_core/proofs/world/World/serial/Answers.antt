use Rattle.std.proofs.Common.{sym}
use Rattle.dv_core.proofs.world.World.serial.Goals as goal

pub returns-clause-enough : goal.returns-clause-enough
returns-clause-enough g c = rw (sym c.self.view_is) c.serial.ensures.enough
