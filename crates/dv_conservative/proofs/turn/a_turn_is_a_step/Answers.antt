use Rattle.dv_conservative.specs.World.{new_world}
use Rattle.dv_conservative.proofs.Holding.{holds_after, holds_at_first}
use Rattle.dv_conservative.proofs.Turning.{turn_is_step}
use Rattle.dv_conservative.proofs.turn.a_turn_is_a_step.Goals as goal

pub returns : goal.returns
returns x fits job capacity steps w v p good run may beside =
    turn_is_step fits job good w
    (holds_after fits job good (new_world capacity) w steps (holds_at_first fits job good capacity) run) v p may beside
