-- What a single process has written, while it runs.
use Rattle.std.specs.Prelude.{◌≡◌, ℕ, ◌≤◌, List, [], ◌∷◌, ◌++◌, Option}
use Rattle.std.specs.Io.KnownBytes.{Appends}
use Rattle.dv_time.specs.Time.{IsOfRun, end_of, rank}
use Rattle.dv_bag.specs.Part.{nothing}
use Rattle.dv_conservative.specs.Flat.{whole}
use Rattle.dv_conservative.specs.World.{Job}
use Rattle.dv_devs.specs.Network.{trace_before}
use Rattle.dv_record.specs.Told.{Handed}
use Rattle.dv_written.specs.Faults.{has_fault}
use Rattle.dv_stream.specs.Written.{lines_before}
use Rattle.dv_stream.specs.declared.written.Written.{Written}
use Rattle.dv_text.specs.Names.{tree_names, tree_ports}
use Rattle.dv_text.specs.Texts.{part_text}
use Rattle.dv_text.specs.Writing.{AppendsBeginning}
use Rattle.dv_tree.specs.Tables.{Source}

-- a record that writes parts with the names of a tree has handed over this text
abbrev pub by_tree : Source → List ℕ → Handed
by_tree tree text = record { text_of = part_text (tree_names tree) (tree_ports tree); text = text; past = nothing }

-- the single process has handed over the lines before a mark
abbrev pub HasHandedTo : Job → Source → Written → List Handed → Type 0
HasHandedTo job tree w all = all ≡ by_tree tree (lines_before job tree (rank job.limit w.mark)) ∷ []

-- What was written grew from the lines before one mark to those before another, and it is known whether a fault is among them.
pub record Continues (job : Job) (tree : Source) (old new : Option (List ℕ)) (before after : Written) : Type 0 where
  pub of_run : IsOfRun job.limit after.mark
  pub more : List ℕ
  pub lines : lines_before job tree (rank job.limit before.mark) ++ more ≡ lines_before job tree (rank job.limit after.mark)
  pub text : Appends old new more
  pub faults : after.faulted ≡ has_fault (trace_before job.limit (whole job.flat) job.outside (rank job.limit after.mark))

-- What was written grew from the lines before a mark by a beginning of the lines after it.
pub record Breaks (job : Job) (tree : Source) (old new : Option (List ℕ)) (before : Written) : Type 0 where
  pub upto : ℕ
  pub within : upto ≤ end_of job.limit job.horizon
  pub more : List ℕ
  pub lines : lines_before job tree (rank job.limit before.mark) ++ more ≡ lines_before job tree upto
  pub text : AppendsBeginning old new more
