-- The errors of a job: how they are printed, and which error of a lower crate each comes from.
use Rattle.std.specs.Prelude.{◌≡◌, ℕ, List, codes}
use Rattle.dv_lex.specs.Words.{error_words}
use Rattle.dv_inputs.specs.Words.{refusal_words}
use Rattle.dv_inputs.specs.declared.error.InputsError.{InputsError}
use Rattle.dv_inputs.specs.declared.error.InputsError.TheVariants as inputs
use Rattle.dv_partition.specs.Words.{refusal_words as partition_words}
use Rattle.dv_partition.specs.declared.error.PartitionError.{PartitionError}
use Rattle.dv_partition.specs.declared.error.PartitionError.TheVariants as partition
use Rattle.dv_lex.specs.Texts.{answer_to}
use Rattle.dv_lex.specs.declared.error.LoadError.{LoadError}
use Rattle.dv_lex.specs.declared.error.LoadError.TheVariants as load
use Rattle.dv_text.specs.declared.writing.WriteError.{WriteError}
use Rattle.dv_text.specs.declared.writing.WriteError.TheVariants as write
use Rattle.dv_job.specs.declared.ended.JobError.{JobError}
use Rattle.dv_job.specs.declared.ended.JobError.TheVariants as error

-- `E7 line 3`, `Q3`, `I2 line 1`, `write`, or `E18`
abbrev pub job_error_words : JobError → List ℕ
job_error_words (error.Text e) = error_words e
job_error_words (error.Partition r) = partition_words r
job_error_words (error.Inputs r) = refusal_words r
job_error_words error.Write = codes "write"
job_error_words error.Memory = codes "E18"

-- a refusal of a text is answered with its line
abbrev pub job_error_of_load : List ℕ → LoadError → JobError
job_error_of_load text (load.Refused r) = error.Text (answer_to text r)
job_error_of_load text load.Memory = error.Memory

abbrev pub job_error_of_write : WriteError → JobError
job_error_of_write write.Write = error.Write
job_error_of_write write.Memory = error.Memory

abbrev pub IsOfWrite : WriteError → JobError → Type 0
IsOfWrite e j = j ≡ job_error_of_write e

abbrev pub job_error_of_inputs : InputsError → JobError
job_error_of_inputs (inputs.Refused r) = error.Inputs r
job_error_of_inputs inputs.Memory = error.Memory

abbrev pub IsOfInputs : InputsError → JobError → Type 0
IsOfInputs e j = j ≡ job_error_of_inputs e

abbrev pub job_error_of_partition : PartitionError → JobError
job_error_of_partition (partition.Refused r) = error.Partition r
job_error_of_partition partition.Memory = error.Memory

abbrev pub IsOfPartition : PartitionError → JobError → Type 0
IsOfPartition e j = j ≡ job_error_of_partition e
