use Rattle.dv_conservative.specs.World.{all_of, new_world}
use Rattle.dv_conservative.proofs.Holding.{Holds, few_packets, holds_after, holds_at_first}
use Rattle.dv_conservative.proofs.world.links_carry_few_packets.Goals as goal

pub returns : goal.returns
returns x fits job capacity steps w good run l c e =
    let holds : Holds fits job good w =
    holds_after fits job good (new_world capacity) w steps (holds_at_first fits job good capacity) run in
    few_packets job l c (all_of (w.link l)) (holds.truth l c e)
