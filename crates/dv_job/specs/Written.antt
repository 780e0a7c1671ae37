-- How the text of a run ends, why a text was not written to its end, and what the writer then holds.
use Rattle.std.specs.Prelude.{ℕ, Bool, if◌then◌else◌, List, ◌⊎◌, Option}
use Rattle.std.specs.Io.KnownBytes.{Keeps}
use Rattle.dv_time.specs.declared.time.Time.{Time}
use Rattle.dv_text.specs.Texts.{ending_text, partial_ending}
use Rattle.dv_text.specs.Writing.{StopsShort}
use Rattle.dv_text.specs.declared.writing.Ending.TheVariants as text_end
use Rattle.dv_stream.specs.declared.ran.RunEnded.{RunEnded}
use Rattle.dv_stream.specs.declared.ran.RunEnded.TheVariants.{Cut, Whole}
use Rattle.dv_job.specs.declared.ended.JobEnded.{JobEnded}
use Rattle.dv_job.specs.declared.ended.JobEnded.TheVariants as ended
use Rattle.dv_job.specs.declared.ended.JobError.{JobError}
use Rattle.dv_job.specs.declared.ended.JobError.TheVariants as error

-- a beginning that is not all of it, or nothing if memory was refused
abbrev pub IsUnwritten : JobError → List ℕ → (old new : Option (List ℕ)) → Type 0
IsUnwritten (error.Text e) text old new = ⊥
IsUnwritten (error.Partition r) text old new = ⊥
IsUnwritten (error.Inputs r) text old new = ⊥
IsUnwritten error.Write text old new = StopsShort old new text
IsUnwritten error.Memory text old new = Keeps old new ⊎ StopsShort old new text

-- how the text of a run ends, by its ending and its clocks
abbrev pub end_text : RunEnded → (horizon : ℕ) → List Time → List ℕ
end_text Whole horizon clocks = ending_text (text_end.Whole horizon)
end_text (Cut why) horizon clocks = partial_ending clocks

-- the answer of a run, by its ending and whether a component had a fault
abbrev pub ended_at : RunEnded → Bool → JobEnded
ended_at Whole faulted = if faulted then ended.Faulted else ended.Whole
ended_at (Cut why) faulted = ended.Partial why
