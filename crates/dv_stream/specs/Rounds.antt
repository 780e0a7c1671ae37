-- What is joined of the processes of a world between rounds.
use Rattle.std.specs.Prelude.{◌≡◌, ℕ, List, length, map, slice_get, Some}
use Rattle.dv_time.specs.declared.time.Time.{Time}
use Rattle.dv_conservative.specs.World.{Job}
use Rattle.dv_core.specs.ProcessState.{ProcessState}
use Rattle.dv_core.specs.declared.state.WorldState.{WorldState}
use Rattle.dv_record.specs.Told.{Handed}
use Rattle.dv_work.specs.Seats.{HasHandedOver}

-- each process has handed over its part before its clock in the backlog; the lists are by the numbers of the processes
pub record AreJoined (job : Job) (states : List ProcessState) (handed : List Handed) (clocks : List Time) : Type 0 where
  pub count : length clocks ≡ job.processes
  pub each : (p : ℕ) (x : ProcessState) (h : Handed) (t : Time) → slice_get states p ≡ Some x → slice_get handed p ≡ Some h
      → slice_get clocks p ≡ Some t → HasHandedOver job p x h t

-- this holds of the processes of a world
abbrev pub IsJoinedTo : {J P : Type 0} → Job → (P → ProcessState) → (P → Handed) → WorldState J P → (clocks : List Time) → Type 0
IsJoinedTo job state handed w clocks = AreJoined job (map state w.processes.items) (map handed w.processes.items) clocks
