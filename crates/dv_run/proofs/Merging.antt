-- What the processes of a text commit can be merged.
use Rattle.std.proofs.Common.{◌≡◌, ℕ, ◌<◌, List, None}
use Rattle.dv_bag.specs.declared.inputs.Input.{Input}
use Rattle.dv_board.specs.Jobs.{IsMergeable}
use Rattle.dv_check.specs.Refusals.{refusal_of}
use Rattle.dv_check.specs.Writable.{IsWritable}
use Rattle.dv_conservative.specs.Flat.{whole}
use Rattle.dv_devs.specs.Cuts.{RiseFrom}
use Rattle.dv_devs.specs.Idle.{LeavesOnlyWhatIsSent}
use Rattle.dv_devs.specs.NextTimes.{IsReady}
use Rattle.dv_devs.specs.Outside.{LeavesLinearly, SendsBags}
use Rattle.dv_partition.specs.Groups.{owner_of}
use Rattle.dv_plain.specs.Source.{outside}
use Rattle.dv_run.specs.Texts.{text_job}
use Rattle.dv_run.specs.declared.text_job.TextJob.{TextJob}
use Rattle.law_sound.specs.Members.{flat_of}
use Rattle.dv_syntax.specs.Trees.{FileTree, file_of}

-- what is known of what leaves a flat model
pub record Leaves (f : FileTree) (limit : ℕ) : Type 0 where
  pub ready : IsReady (whole (flat_of limit f))
  pub rise : RiseFrom 0 (whole (flat_of limit f)).numbers
  pub outputs : LeavesOnlyWhatIsSent (whole (flat_of limit f))
  pub linear : LeavesLinearly (whole (flat_of limit f))
  pub bags : (inputs : List Input) (n : ℕ) → IsWritable f → refusal_of f ≡ None
      → SendsBags limit (whole (flat_of limit f)) (outside f limit inputs) n

pub merges : (j : TextJob) → IsWritable (file_of j.tree.now.file) → refusal_of (file_of j.tree.now.file) ≡ None
    → Leaves (file_of j.tree.now.file) j.limit → ((k : ℕ) → owner_of j.groups.now k < j.groups.now.processes)
    → IsMergeable (text_job j)
merges j writable accepted leaves owned = record {
  ready = leaves.ready;
  rise = leaves.rise;
  outputs = leaves.outputs;
  linear = leaves.linear;
  bags = λ n. leaves.bags j.inputs.now n writable accepted;
  owned = owned;
}
