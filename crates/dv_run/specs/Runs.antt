-- How far the run of a text came, and what was printed of it.
use Rattle.std.specs.Prelude.{◌≡◌, ◌≢◌, ℕ, ◌<◌, ◌≤◌, nat_eq, List, length, slice_get, Option, Some}
use Rattle.std.specs.Vec.{vec_len}
use Rattle.std.specs.Io.KnownBytes.{Appends}
use Rattle.dv_time.specs.Time.{end_of, rank}
use Rattle.dv_time.specs.declared.time.Time.{Time}
use Rattle.dv_bag.specs.Part.{PartOf}
use Rattle.dv_bag.specs.declared.inputs.Input.{Input}
use Rattle.dv_syntax.specs.Trees.{FileTree}
use Rattle.dv_devs.specs.Clocks.{least_rank}
use Rattle.dv_devs.specs.Network.{trace_before}
use Rattle.dv_devs.specs.Parts.{part_before}
use Rattle.dv_conservative.specs.World.{World, new_world}
use Rattle.dv_core.specs.Worlds.{EndsAs, IsRunWithProgress, with_replies}
use Rattle.dv_core.specs.declared.step.Step.{Step}
use Rattle.dv_core.specs.declared.step.Ended.{Ended}
use Rattle.dv_partition.specs.Groups.{Grouping, owner_of}
use Rattle.dv_plain.specs.Source.{network_of, outside}
use Rattle.dv_plan.specs.declared.ran.Stepped.{Stepped}
use Rattle.law_rules.specs.Jobs.{job_by_rules}
use Rattle.dv_stream.specs.Clocks.{AreWithin}
use Rattle.dv_stream.specs.Endings.{by_rounds}
use Rattle.dv_stream.specs.declared.ran.Ran.{Ran}
use Rattle.dv_stream.specs.declared.ran.RunEnded.TheVariants.{Cut, Whole}
use Rattle.dv_stream.specs.declared.ran.Why.TheVariants.{Rounds}
use Rattle.dv_written.specs.Faults.{has_fault}
use Rattle.dv_text.specs.Names.{component_names, root_ports}
use Rattle.dv_text.specs.Texts.{instants_text}
use Rattle.dv_text.specs.Writing.{AppendsBeginning}

-- At most so many rounds led from a new world of the processes of a text to these clocks, one for each process, by their numbers.
pub record LedTo (f : FileTree) (played : List Input) (groups : Grouping) (horizon limit capacity rounds : ℕ) (ended : Ended)
    (times : List Time) : Type 0 where
  pub world : World
  pub ends : EndsAs (job_by_rules limit horizon f played groups.processes (owner_of groups)) rounds ended (new_world capacity) world
  pub count : length times ≡ groups.processes
  pub clocks : (p : ℕ) (t : Time) → slice_get times p ≡ Some t → world.clock p ≡ t

-- the lines of the instants of a text's resultant, with these inputs, before a rank
abbrev pub lines_before : List (List ℕ) → FileTree → List Input → (limit : ℕ) → ℕ → List ℕ
lines_before names f played limit n =
    instants_text (component_names names f) (root_ports names f) limit (network_of limit f) (outside f limit played) n

-- What a writer got of the run of a text: the lines of the trace of its resultant with these inputs, before the least clock. There is
-- one clock for each process, and none is past the end. If the run is whole, the least clock is the end, and else it is before the end.
pub record IsPrinted (names : List (List ℕ)) (f : FileTree) (played : List Input) (groups : Grouping) (horizon limit : ℕ)
    (old new : Option (List ℕ)) (ran : Ran) : Type 0 where
  pub lines : Appends old new (lines_before names f played limit (least_rank limit ran.clocks.items))
  pub faults : ran.written.faulted ≡ has_fault
      (trace_before limit (network_of limit f) (outside f limit played) (least_rank limit ran.clocks.items))
  pub some : 0 < length ran.clocks.items
  pub count : length ran.clocks.items ≡ groups.processes
  pub within : AreWithin horizon limit ran.clocks.items
  pub whole : ran.ended ≡ Whole → least_rank limit ran.clocks.items ≡ end_of limit horizon
  pub short : ran.ended ≢ Whole → least_rank limit ran.clocks.items < end_of limit horizon

-- The same of a run in rounds, which led to these clocks. It is cut for lack of rounds only if there are no more rounds than ranks before
-- the end.
pub record IsRunOf (names : List (List ℕ)) (f : FileTree) (played : List Input) (groups : Grouping)
    (horizon limit capacity rounds : ℕ) (old new : Option (List ℕ)) (ran : Ran) : Type 0 where
  pub printed : IsPrinted names f played groups horizon limit old new ran
  pub stalls : ran.ended ≡ Cut Rounds → 0 < capacity → rounds ≤ end_of limit horizon
  pub ended : Ended
  pub ended_so : ran.ended ≢ Whole → ran.ended ≡ by_rounds ended
  pub led : LedTo f played groups horizon limit capacity rounds ended ran.clocks.items

-- A writer got a beginning of the lines before some rank that is not past the end.
pub record IsCutShort (names : List (List ℕ)) (f : FileTree) (played : List Input) (horizon limit : ℕ) (old new : Option (List ℕ))
    : Type 0 where
  pub upto : ℕ
  pub within : upto ≤ end_of limit horizon
  pub lines : AppendsBeginning old new (lines_before names f played limit upto)

-- The main claim on steps. The steps of a list, each with its reply, led from a new world of the text's processes to these clocks, and
-- each turn that was done made progress. What each process has committed is exactly its components' part, before its clock, of the trace
-- of the text's resultant with these inputs.
pub record IsStepped (f : FileTree) (played : List Input) (groups : Grouping) (horizon limit capacity : ℕ) (steps : List Step)
    (s : Stepped) : Type 0 where
  pub world : World
  pub run : IsRunWithProgress (job_by_rules limit horizon f played groups.processes (owner_of groups)) (with_replies steps s.replies.items)
      (new_world capacity) world
  pub each : vec_len s.replies ≡ length steps
  pub clocks : (p : ℕ) (t : Time) → slice_get s.clocks.items p ≡ Some t → world.clock p ≡ t
  pub count : (length s.clocks.items ≡ groups.processes) × (length s.parts.items ≡ groups.processes)
  pub parts : (p : ℕ) (x : PartOf) (t : Time) → slice_get s.parts.items p ≡ Some x → slice_get s.clocks.items p ≡ Some t
      → x ≡ part_before (λ k. nat_eq (owner_of groups k) p) limit (network_of limit f) (outside f limit played) (rank limit t)
