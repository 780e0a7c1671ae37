-- What the plan of a text says of it.
use Rattle.std.specs.Prelude.{◌≡◌, ℕ, List, Option, Ok, map}
use Rattle.std.specs.List.{range_with_len}
use Rattle.dv_syntax.specs.Trees.{FileTree}
use Rattle.dv_tree.specs.Instances.{instances}
use Rattle.dv_flat.specs.Links.{direct_links, entry_links, exit_links, paths_of}
use Rattle.dv_conservative.specs.Responses.{least_response}
use Rattle.law_sound.specs.Jobs.{responses_of}
use Rattle.law_sound.specs.Members.{direct_of, entry_of, exit_of}
use Rattle.dv_partition.specs.Answers.{partition_answer}
use Rattle.dv_partition.specs.Groups.{Grouping, owner_of}
use Rattle.dv_partition.specs.declared.choice.Partition.{Partition}
use Rattle.dv_plan.specs.Texts.{PlanLinks, plan_text}
use Rattle.dv_job.specs.Job.{IsAnswer, IsModelOf}
use Rattle.dv_job.specs.Names.{plan_names}
use Rattle.dv_job.specs.Running.{IsAnswerToPartition}
use Rattle.dv_job.specs.declared.ended.JobError.{JobError}
use Rattle.dv_job.specs.declared.ended.JobError.TheVariants as error

-- the links of a text's flat model, in their order
abbrev pub links_in_plan : FileTree → PlanLinks
links_in_plan f = record {
  direct = map direct_of (direct_links f);
  entrances = map entry_of (entry_links f);
  exits = map exit_of (exit_links f);
}

-- the response of each process: the least one of its components
abbrev pub responses_in_plan : FileTree → Grouping → List (Option ℕ)
responses_in_plan f groups =
    map (λ p. least_response (owner_of groups) p 0 (responses_of (instances f))) (range_with_len 0 groups.processes)

-- the model is accepted, the partition is one of its components, and this is the text of their plan
pub record HasPlan (model : List ℕ) (partition : Partition) (text : List ℕ) : Type 0 where
  pub names : List (List ℕ)
  pub file : FileTree
  pub groups : Grouping
  pub accepted : IsModelOf model names file
  pub parted : partition_answer (paths_of names file) partition ≡ Ok groups
  pub printed : text ≡ plan_text (plan_names names file) (links_in_plan file) groups (responses_in_plan file groups)

-- the error is the answer to the model's text, or to the partition, or out of memory
abbrev pub AnswersPlan : List ℕ → Partition → JobError → Type 0
AnswersPlan model partition (error.Text e) = IsAnswer model e
AnswersPlan model partition (error.Partition r) = IsAnswerToPartition model partition r
AnswersPlan model partition (error.Inputs r) = ⊥
AnswersPlan model partition error.Write = ⊥
AnswersPlan model partition error.Memory = Unit {0}
