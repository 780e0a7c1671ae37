-- Why a run by workers was cut, by why its workers ended.
use Rattle.std.specs.Prelude.{◌≡◌, List, Option, None}
use Rattle.dv_stream.specs.Endings.{why_for}
use Rattle.dv_stream.specs.declared.ran.Why.TheVariants as why
use Rattle.dv_work.specs.Endings.{first_cause}
use Rattle.dv_work.specs.declared.worker.Halt.{Halt}
use Rattle.dv_job.specs.declared.ended.EndedByWorkers.{EndedByWorkers}
use Rattle.dv_job.specs.declared.ended.JobEnded.{JobEnded}
use Rattle.dv_job.specs.declared.ended.JobEnded.TheVariants as ended

-- a run that is cut was cut as its workers' halts say
abbrev pub IsCutAs : {C : Type 0} → List (Option (Halt C)) → JobEnded → Type 0
IsCutAs halts ended.Whole = Unit {0}
IsCutAs halts ended.Faulted = Unit {0}
IsCutAs halts (ended.Partial w) = w ≡ why_for halts

-- the cause for which the watch stopped a run that ended so
abbrev pub cause_at : {C : Type 0} → JobEnded → List (Option (Halt C)) → Option C
cause_at ended.Whole halts = None
cause_at ended.Faulted halts = None
cause_at (ended.Partial why.Rounds) halts = None
cause_at (ended.Partial why.Memory) halts = None
cause_at (ended.Partial why.Stopped) halts = first_cause halts

abbrev pub cause_of : {C : Type 0} → EndedByWorkers C → Option C
cause_of w = cause_at w.ended w.halts.items
