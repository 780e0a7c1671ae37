-- How a run in processes ends, and what the writer then holds.
use Rattle.std.specs.Prelude.{◌≡◌, ℕ, ◌+◌, ◌<◌, ◌≤◌, List, length, ◌⊎◌, Option, None, unwrap_or, Ok, Err}
use Rattle.std.specs.Io.KnownBytes.{Appends, Keeps}
use Rattle.dv_time.specs.Time.{end_of}
use Rattle.dv_time.specs.declared.time.Time.{Time}
use Rattle.dv_bag.specs.declared.inputs.Input.{Input}
use Rattle.dv_syntax.specs.Trees.{FileTree}
use Rattle.dv_inputs.specs.Reading.{reading_of}
use Rattle.dv_inputs.specs.declared.error.InputRefusal.{InputRefusal}
use Rattle.dv_core.specs.declared.step.Ended.{Ended}
use Rattle.dv_devs.specs.Clocks.{least_rank}
use Rattle.dv_core.specs.declared.step.Ended.TheVariants.{Memory, Stalled}
use Rattle.dv_flat.specs.Links.{paths_of}
use Rattle.dv_partition.specs.Answers.{partition_answer}
use Rattle.dv_partition.specs.Groups.{Grouping}
use Rattle.dv_partition.specs.declared.choice.Partition.{Partition}
use Rattle.dv_partition.specs.declared.error.PartitionRefusal.{PartitionRefusal}
use Rattle.dv_plain.specs.Source.{network_of, outside, trace_of}
use Rattle.dv_run.specs.Runs.{LedTo}
use Rattle.dv_stream.specs.Clocks.{AreWithin}
use Rattle.dv_stream.specs.declared.ran.Why.TheVariants as why
use Rattle.dv_text.specs.Names.{component_names, root_ports}
use Rattle.dv_text.specs.Texts.{partial_text}
use Rattle.dv_text.specs.Writing.{StopsShort}
use Rattle.dv_job.specs.Ending.{IsJob, ending_of}
use Rattle.dv_job.specs.Job.{IsAnswer, IsModelOf, input_ports, run_text}
use Rattle.dv_job.specs.declared.ended.JobEnded.{JobEnded}
use Rattle.dv_job.specs.declared.ended.JobEnded.TheVariants as ended
use Rattle.dv_job.specs.declared.options.Driver.{Driver}
use Rattle.dv_job.specs.declared.options.Driver.TheVariants.{Rounds, Workers}
use Rattle.dv_job.specs.declared.options.Options.{Options}
use Rattle.dv_job.specs.declared.ended.JobError.{JobError}
use Rattle.dv_job.specs.declared.ended.JobError.TheVariants as error

-- The text of a model is accepted, a partition puts its components into these groups, and the text of its inputs gives these inputs to a
-- run with this limit.
pub record IsPlanned (model inputs : List ℕ) (partition : Partition) (limit : ℕ) (names : List (List ℕ)) (f : FileTree)
    (groups : Grouping) (played : List Input) : Type 0 where
  pub job : IsJob model inputs limit names f played
  pub parted : partition_answer (paths_of names f) partition ≡ Ok groups

-- the text of the trace of a file's resultant, cut at these clocks
abbrev pub cut_text : List (List ℕ) → FileTree → List Input → (limit : ℕ) → List Time → List ℕ
cut_text names f inputs limit clocks =
    partial_text (component_names names f) (root_ports names f) limit (network_of limit f) (outside f limit inputs) clocks

-- the whole text of a trace, or one that is cut at the clocks of the processes, one for each, none of which is past the end, and the least
-- of which is before it; there is at least one process
abbrev pub IsTextOf : List (List ℕ) → FileTree → List Input → (processes horizon limit : ℕ) → List ℕ → Type 0
IsTextOf names f inputs processes horizon limit text =
    (text ≡ run_text names f inputs horizon limit)
    ⊎ ((clocks : List Time) × (length clocks ≡ processes) × (0 < length clocks) × AreWithin horizon limit clocks
    × (least_rank limit clocks < end_of limit horizon) × (text ≡ cut_text names f inputs limit clocks))

-- the bound on the rounds of a driver, if there is one; workers have none
abbrev pub rounds_of : Driver → Option ℕ
rounds_of (Rounds most) = most
rounds_of (Workers count) = None

-- how many rounds a run has: those of its driver, or else one more than there are ranks before the end, which is enough
abbrev pub granted : Options → ℕ
granted o = unwrap_or (rounds_of o.driver) (end_of o.limit o.horizon + 1)

-- All is accepted, the writer's bytes grew by the whole text of the trace, and the answer says whether it holds a fault.
pub record PrintsWhole (model inputs : List ℕ) (partition : Partition) (o : Options) (old new : Option (List ℕ)) (e : JobEnded)
    : Type 0 where
  pub names : List (List ℕ)
  pub file : FileTree
  pub groups : Grouping
  pub played : List Input
  pub planned : IsPlanned model inputs partition o.limit names file groups played
  pub ending : e ≡ ending_of (trace_of file played o.horizon o.limit)
  pub written : Appends old new (run_text names file played o.horizon o.limit)

-- All is accepted, and the writer's bytes grew by the text of the trace, cut at the clocks of the processes, one for each, none of
-- which is past the end. The least of them is before the end.
pub record PrintsCut (model inputs : List ℕ) (partition : Partition) (o : Options) (old new : Option (List ℕ)) : Type 0 where
  pub names : List (List ℕ)
  pub file : FileTree
  pub groups : Grouping
  pub played : List Input
  pub planned : IsPlanned model inputs partition o.limit names file groups played
  pub clocks : List Time
  pub count : length clocks ≡ groups.processes
  pub some : 0 < length clocks
  pub within : AreWithin o.horizon o.limit clocks
  pub short : least_rank o.limit clocks < end_of o.limit o.horizon
  pub written : Appends old new (cut_text names file played o.limit clocks)

-- The same of a run in rounds, which led to these clocks and ended so.
pub record PrintsLed (model inputs : List ℕ) (partition : Partition) (o : Options) (old new : Option (List ℕ)) (rounds : Ended)
    : Type 0 where
  pub cut : PrintsCut model inputs partition o old new
  pub led : LedTo cut.file cut.played cut.groups o.horizon o.limit o.capacity (granted o) rounds cut.clocks

-- All is accepted, and the writer's bytes grew by a beginning of such a text, but not by all of it.
pub record PrintsSome (model inputs : List ℕ) (partition : Partition) (o : Options) (old new : Option (List ℕ)) : Type 0 where
  pub names : List (List ℕ)
  pub file : FileTree
  pub groups : Grouping
  pub played : List Input
  pub planned : IsPlanned model inputs partition o.limit names file groups played
  pub text : List ℕ
  pub is_text : IsTextOf names file played groups.processes o.horizon o.limit text
  pub written : StopsShort old new text

-- What an answer says of the writer's bytes. A run in rounds is never stopped, and is cut for lack of rounds only if there are no more
-- rounds than ranks before the end.
abbrev pub EndsBy : JobEnded → (model inputs : List ℕ) → Partition → Options → (old new : Option (List ℕ)) → Type 0
EndsBy ended.Whole model inputs partition o old new = PrintsWhole model inputs partition o old new ended.Whole
EndsBy ended.Faulted model inputs partition o old new = PrintsWhole model inputs partition o old new ended.Faulted
EndsBy (ended.Partial why.Rounds) model inputs partition o old new =
    PrintsCut model inputs partition o old new × (granted o ≤ end_of o.limit o.horizon)
EndsBy (ended.Partial why.Memory) model inputs partition o old new = PrintsCut model inputs partition o old new
EndsBy (ended.Partial why.Stopped) model inputs partition o old new = ⊥

-- which clocks are printed of a run in rounds that is cut: those to which its rounds led
abbrev pub IsLed : JobEnded → (model inputs : List ℕ) → Partition → Options → (old new : Option (List ℕ)) → Type 0
IsLed ended.Whole model inputs partition o old new = Unit {0}
IsLed ended.Faulted model inputs partition o old new = Unit {0}
IsLed (ended.Partial why.Rounds) model inputs partition o old new = PrintsLed model inputs partition o old new Stalled
IsLed (ended.Partial why.Memory) model inputs partition o old new = PrintsLed model inputs partition o old new Memory
IsLed (ended.Partial why.Stopped) model inputs partition o old new = ⊥

-- what an answer says of the bytes of a run by workers, which has no rounds
abbrev pub EndsByWorkers : JobEnded → (model inputs : List ℕ) → Partition → Options → (old new : Option (List ℕ)) → Type 0
EndsByWorkers ended.Whole model inputs partition o old new = PrintsWhole model inputs partition o old new ended.Whole
EndsByWorkers ended.Faulted model inputs partition o old new = PrintsWhole model inputs partition o old new ended.Faulted
EndsByWorkers (ended.Partial why.Memory) model inputs partition o old new = PrintsCut model inputs partition o old new
EndsByWorkers (ended.Partial why.Stopped) model inputs partition o old new = PrintsCut model inputs partition o old new
EndsByWorkers (ended.Partial why.Rounds) model inputs partition o old new = ⊥

-- the model is accepted, and this is the answer to the partition of its components
pub record IsAnswerToPartition (model : List ℕ) (partition : Partition) (r : PartitionRefusal) : Type 0 where
  pub names : List (List ℕ)
  pub file : FileTree
  pub accepted : IsModelOf model names file
  pub refused : partition_answer (paths_of names file) partition ≡ Err r

-- the model and the partition are accepted, and this is the answer to the text of the inputs
pub record IsLastAnswer (model inputs : List ℕ) (partition : Partition) (limit : ℕ) (r : InputRefusal) : Type 0 where
  pub names : List (List ℕ)
  pub file : FileTree
  pub groups : Grouping
  pub accepted : IsModelOf model names file
  pub parted : partition_answer (paths_of names file) partition ≡ Ok groups
  pub refused : reading_of inputs (input_ports names file) limit ≡ Err r

-- What an error leaves. At a refusal nothing was written, and the answer is that of the model's text, or, if it is accepted, that of the
-- partition, or else that of the inputs' text. At a failed write there is a beginning of a text that is not all of it; out of memory,
-- nothing or such a beginning.
abbrev pub LeftByRun : JobError → (model inputs : List ℕ) → Partition → Options → (old new : Option (List ℕ)) → Type 0
LeftByRun (error.Text e) model inputs partition o old new = IsAnswer model e × Keeps old new
LeftByRun (error.Partition r) model inputs partition o old new =
    IsAnswerToPartition model partition r × Keeps old new
LeftByRun (error.Inputs r) model inputs partition o old new = IsLastAnswer model inputs partition o.limit r × Keeps old new
LeftByRun error.Write model inputs partition o old new = PrintsSome model inputs partition o old new
LeftByRun error.Memory model inputs partition o old new =
    Keeps old new ⊎ PrintsSome model inputs partition o old new

-- the whole text of a trace, or one that is cut at clocks to which the rounds of a run led
abbrev pub IsLedText : List (List ℕ) → FileTree → List Input → Grouping → Options → List ℕ → Type 0
IsLedText names f played groups o text =
    (text ≡ run_text names f played o.horizon o.limit)
    ⊎ ((clocks : List Time) × (rounds : Ended) × LedTo f played groups o.horizon o.limit o.capacity (granted o) rounds clocks
    × (text ≡ cut_text names f played o.limit clocks))

-- A writer got a beginning of such a text, but not all of it.
pub record PrintsSomeLed (model inputs : List ℕ) (partition : Partition) (o : Options) (old new : Option (List ℕ)) : Type 0 where
  pub some : PrintsSome model inputs partition o old new
  pub led : IsLedText some.names some.file some.played some.groups o some.text

-- which clocks may be printed where a write of a run in rounds failed, or memory was refused
abbrev pub IsLedShort : JobError → (model inputs : List ℕ) → Partition → Options → (old new : Option (List ℕ)) → Type 0
IsLedShort (error.Text e) model inputs partition o old new = Unit {0}
IsLedShort (error.Partition r) model inputs partition o old new = Unit {0}
IsLedShort (error.Inputs r) model inputs partition o old new = Unit {0}
IsLedShort error.Write model inputs partition o old new = PrintsSomeLed model inputs partition o old new
IsLedShort error.Memory model inputs partition o old new = Keeps old new ⊎ PrintsSomeLed model inputs partition o old new
