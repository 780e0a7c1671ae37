-- What a list of steps of the processes of a text leads to.
use Rattle.std.specs.Prelude.{ℕ, List}
use Rattle.dv_bag.specs.declared.inputs.Input.{Input}
use Rattle.dv_core.specs.declared.step.Step.{Step}
use Rattle.dv_syntax.specs.Trees.{FileTree}
use Rattle.dv_partition.specs.Groups.{Grouping}
use Rattle.dv_partition.specs.declared.choice.Partition.{Partition}
use Rattle.dv_run.specs.Runs.{IsStepped}
use Rattle.dv_plan.specs.declared.ran.Stepped.{Stepped}
use Rattle.dv_job.specs.Job.{IsAnswer}
use Rattle.dv_job.specs.Running.{IsAnswerToPartition, IsLastAnswer, IsPlanned}
use Rattle.dv_job.specs.declared.ended.JobError.{JobError}
use Rattle.dv_job.specs.declared.ended.JobError.TheVariants as error
use Rattle.dv_job.specs.declared.options.Options.{Options}

-- All is accepted, and the steps led the processes of the text to these clocks and parts.
pub record HasSteppedText (model inputs : List ℕ) (partition : Partition) (o : Options) (steps : List Step) (s : Stepped) : Type 0 where
  pub names : List (List ℕ)
  pub file : FileTree
  pub groups : Grouping
  pub played : List Input
  pub planned : IsPlanned model inputs partition o.limit names file groups played
  pub stepped : IsStepped file played groups o.horizon o.limit o.capacity steps s

-- the error is the answer to the model's text, to the partition or to the inputs' text, or out of memory
abbrev pub AnswersSteps : (model inputs : List ℕ) → Partition → (limit : ℕ) → JobError → Type 0
AnswersSteps model inputs partition limit (error.Text e) = IsAnswer model e
AnswersSteps model inputs partition limit (error.Partition r) = IsAnswerToPartition model partition r
AnswersSteps model inputs partition limit (error.Inputs r) = IsLastAnswer model inputs partition limit r
AnswersSteps model inputs partition limit error.Write = ⊥
AnswersSteps model inputs partition limit error.Memory = Unit {0}
