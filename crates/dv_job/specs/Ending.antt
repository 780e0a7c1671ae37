-- How a check and a run of bytes end, and what the writer then holds.
use Rattle.std.specs.Prelude.{◌≡◌, ℕ, if◌then◌else◌, List, length, ◌⊎◌, Option, Ok, Err}
use Rattle.std.specs.Io.KnownBytes.{Appends, Keeps}
use Rattle.dv_bag.specs.Part.{PartOf}
use Rattle.dv_syntax.specs.Trees.{FileTree}
use Rattle.dv_bag.specs.declared.inputs.Input.{Input}
use Rattle.dv_inputs.specs.Reading.{reading_of}
use Rattle.dv_inputs.specs.declared.error.InputRefusal.{InputRefusal}
use Rattle.dv_tree.specs.Instances.{instances}
use Rattle.dv_plain.specs.Source.{trace_of}
use Rattle.dv_written.specs.Faults.{has_fault}
use Rattle.dv_text.specs.Writing.{StopsShort}
use Rattle.dv_job.specs.Job.{IsAnswer, IsModelOf, input_ports, run_text}
use Rattle.dv_job.specs.declared.ended.JobEnded.{JobEnded}
use Rattle.dv_job.specs.declared.ended.JobEnded.TheVariants.{Whole, Faulted}
use Rattle.dv_job.specs.declared.ended.JobError.{JobError}
use Rattle.dv_job.specs.declared.ended.JobError.TheVariants as error

abbrev pub ending_of : PartOf → JobEnded
ending_of p = if has_fault p then Faulted else Whole

-- The text of a model is accepted, and the text of its inputs gives these inputs to a run with this limit.
pub record IsJob (model inputs : List ℕ) (limit : ℕ) (names : List (List ℕ)) (f : FileTree) (played : List Input) : Type 0 where
  pub accepted : IsModelOf model names f
  pub read : reading_of inputs (input_ports names f) limit ≡ Ok played

-- Both texts are accepted, the writer's bytes grew by the whole text of the trace, and the answer says whether it holds a fault.
pub record PrintsTrace (model inputs : List ℕ) (horizon limit : ℕ) (old new : Option (List ℕ)) (ended : JobEnded) : Type 0 where
  pub names : List (List ℕ)
  pub file : FileTree
  pub played : List Input
  pub job : IsJob model inputs limit names file played
  pub ending : ended ≡ ending_of (trace_of file played horizon limit)
  pub written : Appends old new (run_text names file played horizon limit)

-- Both texts are accepted, and the writer's bytes grew by a beginning of the whole text of the trace, but not by all of it.
pub record PrintsBeginning (model inputs : List ℕ) (horizon limit : ℕ) (old new : Option (List ℕ)) : Type 0 where
  pub names : List (List ℕ)
  pub file : FileTree
  pub played : List Input
  pub job : IsJob model inputs limit names file played
  pub written : StopsShort old new (run_text names file played horizon limit)

-- the model is accepted, and this is the answer to the text of its inputs
pub record IsAnswerToInputs (model inputs : List ℕ) (limit : ℕ) (r : InputRefusal) : Type 0 where
  pub names : List (List ℕ)
  pub file : FileTree
  pub accepted : IsModelOf model names file
  pub refused : reading_of inputs (input_ports names file) limit ≡ Err r

-- What an error leaves. At a refusal nothing was written, and the answer is that of the model's text, or, if the model is accepted, that
-- of its inputs' text. At a failed write there is a beginning that is not all; out of memory, nothing or such a beginning.
abbrev pub LeftBy : JobError → (model inputs : List ℕ) → (horizon limit : ℕ) → Option (List ℕ) → Option (List ℕ) → Type 0
LeftBy (error.Text e) model inputs horizon limit old new = IsAnswer model e × Keeps old new
LeftBy (error.Partition r) model inputs horizon limit old new = ⊥
LeftBy (error.Inputs r) model inputs horizon limit old new = IsAnswerToInputs model inputs limit r × Keeps old new
LeftBy error.Write model inputs horizon limit old new = PrintsBeginning model inputs horizon limit old new
LeftBy error.Memory model inputs horizon limit old new = Keeps old new ⊎ PrintsBeginning model inputs horizon limit old new

-- the text is accepted, and its model has this number of components
pub record HasComponents (text : List ℕ) (count : ℕ) : Type 0 where
  pub names : List (List ℕ)
  pub file : FileTree
  pub model : IsModelOf text names file
  pub counted : count ≡ length (instances file)

-- the error is the answer to a text, or out of memory
abbrev pub AnswersWith : List ℕ → JobError → Type 0
AnswersWith text (error.Text e) = IsAnswer text e
AnswersWith text (error.Partition r) = ⊥
AnswersWith text (error.Inputs r) = ⊥
AnswersWith text error.Write = ⊥
AnswersWith text error.Memory = Unit {0}
