-- The processes of one worker, and what it leaves.
use Rattle.std.specs.Prelude.{◌≡◌, ℕ, ◌%◌, List, slice_get, Some}
use Rattle.std.specs.List.{All}
use Rattle.std.specs.declared.vec.Vec.{Vec}
use Rattle.std.specs.declared.alloc.Global.{Global}
use Rattle.dv_conservative.specs.World.{Job}
use Rattle.dv_core.specs.ProcessState.{ProcessState}
use Rattle.dv_link.specs.declared.link.Link.{Link}
use Rattle.dv_record.specs.Told.{Handed}
use Rattle.dv_work.specs.Seats.{Reports, Sits}
use Rattle.dv_work.specs.declared.seat.Seat.{Seat}
use Rattle.dv_work.specs.declared.worker.Worked.{Worked}

pub record Seated {N P : Type 0} (job : Job) (state : P → ProcessState) (handed : P → Handed) (IsValid : P → Type 0)
    (links : List (Link N)) (seats : Vec (Seat P) Global) : Type 0 where
  pub sits : All (Sits job state handed IsValid links) seats.items

pub record Reported {P C : Type 0} (job : Job) (state : P → ProcessState) (handed : P → Handed) (IsValid : P → Type 0) (w : Worked P C)
    : Type 0 where
  pub reports : All (Reports job state handed IsValid) w.seats.items

-- the processes of a worker have its number, mod the number of workers
abbrev pub AreOfWorker : {P : Type 0} → (workers worker : ℕ) → List (Seat P) → Type 0
AreOfWorker {P} workers worker seats = (i : ℕ) (s : Seat P) → slice_get seats i ≡ Some s → s.number % workers ≡ worker

-- this holds of each worker
abbrev pub AreByWorker : {P : Type 0} → (workers : ℕ) → List (Vec (Seat P) Global) → Type 0
AreByWorker {P} workers by_worker =
    (w : ℕ) (seats : Vec (Seat P) Global) → slice_get by_worker w ≡ Some seats → AreOfWorker workers w seats.items
