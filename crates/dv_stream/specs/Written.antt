-- What was written of the trace of a job, while its processes run.
use Rattle.std.specs.Prelude.{◌≡◌, ℕ, ◌≤◌, ◌||◌, List, Option}
use Rattle.std.specs.Io.KnownBytes.{Appends}
use Rattle.dv_time.specs.Time.{IsOfRun, end_of, rank}
use Rattle.dv_time.specs.declared.time.Time.{Time}
use Rattle.dv_board.specs.Clocks.{IsNoLater}
use Rattle.dv_board.specs.Jobs.{trace}
use Rattle.dv_conservative.specs.Flat.{whole}
use Rattle.dv_conservative.specs.World.{Job}
use Rattle.dv_devs.specs.Network.{trace_before}
use Rattle.dv_written.specs.Faults.{has_fault}
use Rattle.dv_stream.specs.declared.written.Written.{Written}
use Rattle.dv_text.specs.Names.{tree_names, tree_ports}
use Rattle.dv_text.specs.Texts.{instants_text, part_text}
use Rattle.dv_text.specs.Writing.{AppendsBeginning}
use Rattle.dv_tree.specs.Tables.{Source}

-- the lines of the instants of a job before a rank
abbrev pub lines_before : Job → Source → ℕ → List ℕ
lines_before job tree n = instants_text (tree_names tree) (tree_ports tree) job.limit (whole job.flat) job.outside n

-- the lines from one time on and before another
abbrev pub lines_between : Job → Source → Time → Time → List ℕ
lines_between job tree from upto = part_text (tree_names tree) (tree_ports tree) (trace job from upto)

-- The known bytes of a writer grew by the lines of all instants before a mark, and it is known whether a fault is among them.
pub record IsWrittenTo (job : Job) (tree : Source) (old new : Option (List ℕ)) (w : Written) : Type 0 where
  pub of_run : IsOfRun job.limit w.mark
  pub text : Appends old new (lines_before job tree (rank job.limit w.mark))
  pub faults : w.faulted ≡ has_fault (trace_before job.limit (whole job.flat) job.outside (rank job.limit w.mark))

-- The known bytes of a writer grew by a beginning of the lines of a job's instants.
pub record IsBegun (job : Job) (tree : Source) (old new : Option (List ℕ)) : Type 0 where
  pub upto : ℕ
  pub within : upto ≤ end_of job.limit job.horizon
  pub text : AppendsBeginning old new (lines_before job tree upto)

-- The known bytes of a writer grew by the lines from one mark up to another.
pub record GoesOn (job : Job) (tree : Source) (old new : Option (List ℕ)) (before after : Written) : Type 0 where
  pub of_run : IsOfRun job.limit after.mark
  pub order : IsNoLater job before.mark after.mark
  pub text : Appends old new (lines_between job tree before.mark after.mark)
  pub faults : after.faulted ≡ (before.faulted || has_fault (trace job before.mark after.mark))

-- The known bytes of a writer grew by a beginning of the lines from a mark on.
pub record Falters (job : Job) (tree : Source) (old new : Option (List ℕ)) (before : Written) : Type 0 where
  pub upto : Time
  pub order : IsNoLater job before.mark upto
  pub within : rank job.limit upto ≤ end_of job.limit job.horizon
  pub text : AppendsBeginning old new (lines_between job tree before.mark upto)
