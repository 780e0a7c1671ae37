-- How a run ended, by how its rounds or its workers ended.
use Rattle.std.specs.Prelude.{◌≡◌, ◌≢◌, ◌↔◌, ◌<◌, ℕ, if◌then◌else◌, List, Option, Some, length, slice_get}
use Rattle.std.specs.List.{list_any}
use Rattle.dv_conservative.specs.World.{Job}
use Rattle.dv_core.specs.Worlds.{end_time}
use Rattle.dv_core.specs.declared.step.Ended.{Ended as RoundsEnded}
use Rattle.dv_core.specs.declared.step.Ended.TheVariants as rounds
use Rattle.dv_devs.specs.Clocks.{least_rank}
use Rattle.dv_plan.specs.Runs.{HasRun}
use Rattle.dv_plan.specs.declared.ran.Committed.{Committed}
use Rattle.dv_stream.specs.Clocks.{AreWithin}
use Rattle.dv_stream.specs.declared.ran.Ran.{Ran}
use Rattle.dv_stream.specs.declared.ran.RanByWorkers.{RanByWorkers}
use Rattle.dv_stream.specs.declared.ran.RunEnded.{RunEnded}
use Rattle.dv_stream.specs.declared.ran.RunEnded.TheVariants.{Cut, Whole}
use Rattle.dv_stream.specs.declared.ran.Why.{Why}
use Rattle.dv_stream.specs.declared.ran.Why.TheVariants as why
use Rattle.dv_time.specs.Time.{rank}
use Rattle.dv_time.specs.declared.time.Time.{Time}
use Rattle.dv_work.specs.Endings.{is_caused, lacks_memory}
use Rattle.dv_work.specs.declared.worker.Halt.{Halt}

-- by rounds, where not every clock is at the end
abbrev pub by_rounds : RoundsEnded → RunEnded
by_rounds rounds.Whole = Whole
by_rounds rounds.Stalled = Cut why.Rounds
by_rounds rounds.Memory = Cut why.Memory

-- Why a run by workers was cut: out of memory if a worker was, else stopped if the watch stopped a worker. Otherwise memory was refused to
-- a piece of the trace.
abbrev pub why_for : {C : Type 0} → List (Option (Halt C)) → Why
why_for halts = if list_any lacks_memory halts then why.Memory else if list_any is_caused halts then why.Stopped else why.Memory

-- At most so many rounds of a new world led to these clocks. The run is whole exactly if every clock is at the end, and else it ended as
-- its rounds did.
pub record HasRunInRounds (job : Job) (capacity rounds : ℕ) (r : Ran) : Type 0 where
  pub committed : Committed
  pub run : HasRun job capacity rounds committed
  pub clocks : r.clocks ≡ committed.clocks
  pub whole : (r.ended ≡ Whole) ↔ ((p : ℕ) (t : Time) → slice_get r.clocks.items p ≡ Some t → t ≡ end_time job)
  pub ended : r.ended ≢ Whole → r.ended ≡ by_rounds committed.ended

-- Workers led to these clocks, one for each process and none past the end, and the trace is written up to the least of them. The run is
-- whole exactly if every clock is at the end, and else it was cut as the halts of its workers say.
pub record HasRunByWorkers {C : Type 0} (job : Job) (r : RanByWorkers C) : Type 0 where
  pub some_clocks : 0 < length r.ran.clocks.items
  pub count : length r.ran.clocks.items ≡ job.processes
  pub least : rank job.limit r.ran.written.mark ≡ least_rank job.limit r.ran.clocks.items
  pub within : AreWithin job.horizon job.limit r.ran.clocks.items
  pub whole : (r.ran.ended ≡ Whole) ↔ ((p : ℕ) (t : Time) → slice_get r.ran.clocks.items p ≡ Some t → t ≡ end_time job)
  pub cut : r.ran.ended ≢ Whole → r.ran.ended ≡ Cut (why_for r.halts.items)
