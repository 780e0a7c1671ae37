-- What loading a text gives.
use Rattle.std.specs.Prelude.{ℕ, List}
use Rattle.dv_bag.specs.declared.inputs.Input.{Input}
use Rattle.dv_partition.specs.Groups.{Grouping}
use Rattle.dv_run.specs.declared.text_job.TextJob.{TextJob}
use Rattle.dv_lex.specs.declared.error.LoadError.{LoadError}
use Rattle.dv_lex.specs.declared.error.LoadError.TheVariants as load
use Rattle.dv_syntax.specs.Trees.{file_of}
use Rattle.dv_tree.specs.Tables.{Source}
use Rattle.dv_job.specs.Job.{IsRefusedText, input_ports}

-- only out of memory, or a refusal of the text
abbrev pub IsUnloaded : LoadError → List ℕ → Type 0
IsUnloaded (load.Refused r) text = IsRefusedText text r
IsUnloaded load.Memory text = Unit {0}

-- the names of the input ports of a tree's root
abbrev pub tree_inputs : Source → List (List ℕ)
tree_inputs s = input_ports s.names (file_of s.file)

-- what a job of a text is made of
pub record JobParts : Type 0 where
  pub tree : Source
  pub inputs : List Input
  pub groups : Grouping
  pub horizon : ℕ
  pub limit : ℕ

abbrev pub parts_of : TextJob → JobParts
parts_of j = record { tree = j.tree.now; inputs = j.inputs.now; groups = j.groups.now; horizon = j.horizon; limit = j.limit }
