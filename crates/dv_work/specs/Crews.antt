-- The parts of a run by workers.
use Rattle.std.specs.Prelude.{◌≡◌, ◌<◌, length}
use Rattle.std.specs.List.{All}
use Rattle.dv_bag.specs.Part.{nothing}
use Rattle.dv_conservative.specs.World.{Job}
use Rattle.dv_core.specs.ProcessState.{ProcessState}
use Rattle.dv_core.specs.Worlds.{AreMadeFor}
use Rattle.dv_record.specs.Told.{Handed}
use Rattle.dv_work.specs.declared.crew.Crew.{Crew}

-- A crew is for a job: its processes are new and have handed over nothing, its channels are those of the job, there is a worker, and
-- each link has room.
pub record IsCrewFor {P K : Type 0} (job : Job) (state : P → ProcessState) (handed : P → Handed) (IsValid : P → Type 0)
    (crew : Crew P K) : Type 0 where
  pub made : AreMadeFor (λ (j : Job). j) state IsValid job crew.channels.items crew.processes.items
  pub kept : All (λ x. (handed x).past ≡ nothing) crew.processes.items
  pub workers : 0 < length crew.works.items
  pub room : 0 < crew.capacity
