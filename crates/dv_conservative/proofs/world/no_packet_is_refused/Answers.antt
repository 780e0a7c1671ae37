use Rattle.dv_conservative.specs.World.{new_world}
use Rattle.dv_conservative.proofs.Accepted.{accepted}
use Rattle.dv_conservative.proofs.Holding.{holds_after, holds_at_first}
use Rattle.dv_conservative.proofs.world.no_packet_is_refused.Goals as goal

pub returns : goal.returns
returns x fits job capacity steps w good run l c p rest e queue =
    accepted fits job good w
    (holds_after fits job good (new_world capacity) w steps (holds_at_first fits job good capacity) run) l c p rest e queue
