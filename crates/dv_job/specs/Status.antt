-- The exit statuses of the program.
use Rattle.std.specs.Prelude.{ℕ, Result, Ok, Err}
use Rattle.dv_job.specs.declared.ended.JobEnded.{JobEnded}
use Rattle.dv_job.specs.declared.ended.JobEnded.TheVariants.{Whole, Faulted, Partial}
use Rattle.dv_job.specs.declared.ended.JobError.{JobError}

abbrev pub status_of : Result JobEnded JobError → ℕ
status_of (Ok Whole) = 0
status_of (Ok Faulted) = 3
status_of (Ok (Partial why)) = 4
status_of (Err e) = 1
