use Rattle.dv_conservative.specs.World.{new_world}
use Rattle.dv_conservative.proofs.Holding.{Holds, components_now, holds_after, holds_at_first, part_now}
use Rattle.dv_conservative.proofs.world.every_process_commits_its_part.Goals as goal

pub returns-clause-packets : goal.returns-clause-packets
returns-clause-packets x fits job capacity steps w good run l c e =
    let holds : Holds fits job good w =
    holds_after fits job good (new_world capacity) w steps (holds_at_first fits job good capacity) run in
    holds.truth l c e

pub returns-clause-clocks : goal.returns-clause-clocks
returns-clause-clocks x fits job capacity steps w good run p =
    let holds : Holds fits job good w =
    holds_after fits job good (new_world capacity) w steps (holds_at_first fits job good capacity) run in
    holds.clocks p

pub returns-clause-within : goal.returns-clause-within
returns-clause-within x fits job capacity steps w good run p =
    let holds : Holds fits job good w =
    holds_after fits job good (new_world capacity) w steps (holds_at_first fits job good capacity) run in
    holds.within p

pub returns-clause-components : goal.returns-clause-components
returns-clause-components x fits job capacity steps w good run p =
    components_now fits job good w (holds_after fits job good (new_world capacity) w steps (holds_at_first fits job good capacity) run) p

pub returns-clause-part : goal.returns-clause-part
returns-clause-part x fits job capacity steps w good run p =
    part_now fits job good w (holds_after fits job good (new_world capacity) w steps (holds_at_first fits job good capacity) run) p
