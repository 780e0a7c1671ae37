-- What the one process of a job tells, as lines of the job's trace.
use Rattle.std.proofs.Common.{◌≡◌, ℕ, ◌≤◌, ◌||◌, Bool, false, List, [], ◌∷◌, ◌++◌, length, map, Option, Some}
use Rattle.std.proofs.Common.{refl, sym, ap, subst, ◌∙◌, arith}
use Rattle.std.specs.Io.KnownBytes.{Appends}
use Rattle.std.specs.List.{list_any, range_with_len, slice_get}
use Rattle.std.specs.Option.{option_map}
use Rattle.std.proofs.lemmas.List.{length-map}
use Rattle.std.proofs.lemmas.Option.{same_Some, slice_get-map}
use Rattle.dv_time.specs.Time.{IsOfRun, end_of, rank}
use Rattle.dv_time.specs.declared.time.Time.{Time}
use Rattle.dv_bag.specs.Bag.{Counts}
use Rattle.dv_bag.specs.Part.{PartOf}
use Rattle.dv_bag.specs.declared.entry.Entry.{Entry}
use Rattle.dv_bag.specs.declared.entry.What.{What}
use Rattle.dv_bag.specs.declared.entry.What.TheVariants as what
use Rattle.dv_board.specs.Jobs.{IsMergeable}
use Rattle.dv_board.proofs.Wholes.{part_of_process, parts_of_trace, trace_of_job}
use Rattle.dv_conservative.specs.Flat.{whole}
use Rattle.dv_conservative.specs.Process.{first_time}
use Rattle.dv_conservative.specs.World.{Job}
use Rattle.dv_core.specs.Kept.{Kept, world_of}
use Rattle.dv_core.specs.ProcessState.{ProcessState}
use Rattle.dv_core.specs.Worlds.{IsTrueToModel, kept_by, shown}
use Rattle.dv_core.specs.declared.state.WorldState.{WorldState}
use Rattle.dv_devs.specs.Network.{Network, trace_before}
use Rattle.dv_written.specs.Faults.{has_fault as has_fault_told, is_fault as is_fault_told}
use Rattle.dv_merge.specs.Whole.{ArePartsOf}
use Rattle.dv_record.specs.Told.{Handed}
use Rattle.dv_text.specs.Names.{tree_names, tree_ports}
use Rattle.dv_text.specs.Texts.{ComponentNames, instants_text, part_text}
use Rattle.dv_text.proofs.Taking.{Appends-append, Appends-nothing, AppendsBeginning-behind, AppendsBeginning-text}
use Rattle.dv_tree.specs.Tables.{Source}
use Rattle.dv_stream.specs.Alone.{Breaks, Continues, by_tree}
use Rattle.dv_written.specs.Faults.{has_fault, is_fault}
use Rattle.dv_stream.specs.Written.{IsBegun, IsWrittenTo, lines_before}
use Rattle.dv_stream.specs.declared.written.Written.{Written}
use Rattle.dv_stream.proofs.Between.{alone_is_whole, map_twice}

-- the text of a trace before a rank is that of its instants
abbrev pub LinesOfInstants : Type 0
LinesOfInstants =
    (all : List ComponentNames) (outputs : List (List ℕ)) (limit : ℕ) (net : Network (List Counts)) (inputs : ℕ → List Counts) (n : ℕ)
    → part_text all outputs (trace_before limit net inputs n) ≡ instants_text all outputs limit net inputs n

-- the part of the one process is the trace
pub all_of_it : (job : Job) → IsMergeable job → job.processes ≡ 1 → (n : ℕ) → part_of_process job n 0 ≡ trace_of_job job n
all_of_it job merges alone n =
    alone_is_whole job.owner (trace_of_job job n) (part_of_process job n 0)
    (subst (λ (m : ℕ). ArePartsOf job.owner (trace_of_job job n) (map (part_of_process job n) (range_with_len 0 m))) alone
    (parts_of_trace job n merges))

-- what is told, behind what was handed over of it, is the lines of the instants
pub lines_told : LinesOfInstants → (job : Job) (tree : Source) (h : Handed) (text bytes : List ℕ) (told : PartOf) (n : ℕ)
    → h ≡ by_tree tree text → h.text_of told ≡ h.text ++ bytes → told ≡ trace_of_job job n → text ++ bytes ≡ lines_before job tree n
lines_told lines job tree h text bytes told n is all part =
    sym (subst (λ (k : Handed). k.text_of told ≡ k.text ++ bytes) is all)
    ∙ ap (part_text (tree_names tree) (tree_ports tree)) part
    ∙ lines (tree_names tree) (tree_ports tree) job.limit (whole job.flat) job.outside n

-- and all of it was handed over then
pub lines_handed : LinesOfInstants → (job : Job) (tree : Source) (h : Handed) (text : List ℕ) (told : PartOf) (n : ℕ)
    → h ≡ by_tree tree text → told ≡ trace_of_job job n
    → (let now : Handed = record h { text = h.text_of told } in now) ≡ by_tree tree (lines_before job tree n)
lines_handed lines job tree h text told n is part =
    ap (λ (k : Handed). let now : Handed = record k { text = k.text_of told } in now) is
    ∙ ap (by_tree tree)
    (ap (part_text (tree_names tree) (tree_ports tree)) part
    ∙ lines (tree_names tree) (tree_ports tree) job.limit (whole job.flat) job.outside n)

-- ---- The one process of a world

only_item : {X : Type 0} (xs : List X) (x : X) → length xs ≡ 1 → slice_get xs 0 ≡ Some x → xs ≡ x ∷ []
only_item [] x long at = absurd (omega (arith, long))
only_item (y ∷ []) x long at = ap (λ z. z ∷ []) (same_Some y x at)
only_item (y ∷ z ∷ xs) x long at = absurd (omega (arith, long))

module _ {J P : Type 0} (means : J → Job) (state : P → ProcessState) (w : WorldState J P) (x : P)
    (at : slice_get w.processes.items 0 ≡ Some x) (holds : IsTrueToModel (means w.job) (kept_by state w)) where
  abbrev job : Job
  job = means w.job

  seen : slice_get (kept_by state w).states 0 ≡ Some (state x)
  seen = slice_get-map state w.processes.items 0 ∙ ap (option_map state) at

  pub told_part : IsMergeable job → job.processes ≡ 1 → (state x).part ≡ trace_of_job job (rank job.limit (state x).position.clock)
  told_part merges alone = holds.parts 0 (state x) seen ∙ all_of_it job merges alone (rank job.limit (state x).position.clock)

  pub its_of_run : IsOfRun job.limit (state x).position.clock
  its_of_run = let h = holds.within 0 (state x) seen in h.0

  pub its_within : rank job.limit (state x).position.clock ≤ end_of job.limit job.horizon
  its_within = let h = holds.within 0 (state x) seen in h.1

  pub only_one : job.processes ≡ 1 → w.processes.items ≡ x ∷ []
  only_one alone = only_item w.processes.items x (sym (length-map w.processes.items state) ∙ holds.count ∙ alone) at

  -- what was handed over of its record
  pub its_handed : {H : Type 0} (handed : P → H) (h : H) → map handed w.processes.items ≡ h ∷ [] → handed x ≡ h
  its_handed {H} handed h all =
      same_Some (handed x) h
      (sym (slice_get-map handed w.processes.items 0 ∙ ap (option_map handed) at) ∙ ap (λ (hs : List H). slice_get hs 0) all)

-- ---- Where nothing is seen to change

module _ {J P : Type 0} (means : J → Job) (state : P → ProcessState) (w v : WorldState J P) (job : v.job ≡ w.job)
    (kept : kept_by state v ≡ kept_by state w) where
  pub same_shown : shown means state v ≡ shown means state w
  same_shown = ap (λ (j : J). world_of (means j) (kept_by state v)) job ∙ ap (world_of (means w.job)) kept

  pub still_true : IsTrueToModel (means w.job) (kept_by state w) → IsTrueToModel (means v.job) (kept_by state v)
  still_true holds =
      subst (λ (j : J). IsTrueToModel (means j) (kept_by state v)) (sym job) (subst (IsTrueToModel (means w.job)) (sym kept) holds)

  pub same_clocks : map (λ x. (state x).position.clock) v.processes.items ≡ map (λ x. (state x).position.clock) w.processes.items
  same_clocks =
      sym (map_twice state (λ (s : ProcessState). s.position.clock) v.processes.items)
      ∙ ap (λ (k : Kept). map (λ (s : ProcessState). s.position.clock) k.states) kept
      ∙ map_twice state (λ (s : ProcessState). s.position.clock) w.processes.items

-- ---- Faults

same_fault : (h : What) → is_fault_told h ≡ is_fault h
same_fault (what.Fault f) = refl
same_fault (what.Transition k s) = refl

same_faults : (es : List Entry) → list_any (λ (e : Entry). is_fault_told e.what) es ≡ list_any (λ (e : Entry). is_fault e.what) es
same_faults [] = refl
same_faults (e ∷ es) =
    ap (λ (b : Bool). b || list_any (λ (d : Entry). is_fault_told d.what) es) (same_fault e.what)
    ∙ ap (λ (b : Bool). is_fault e.what || b) (same_faults es)

pub fault_told : (p : PartOf) → has_fault_told p ≡ has_fault p
fault_told p = same_faults p.entries

-- ---- What was written so far

module _ (job : Job) (tree : Source) where
  pub first_rank : rank job.limit first_time ≡ 0
  first_rank = omega arith

  -- before the first time there is nothing
  pub nothing_yet : (known : Option (List ℕ)) (w : Written) → w.mark ≡ first_time → w.faulted ≡ false → IsWrittenTo job tree known known w
  nothing_yet known w mark fault =
      let at : rank job.limit w.mark ≡ 0 = ap (rank job.limit) mark ∙ first_rank in
      record {
        of_run = subst (λ (t : Time). t.micro ≤ job.limit) (sym mark) (omega arith);
        text = subst (λ (n : ℕ). Appends known known (lines_before job tree n)) (sym at) (Appends-nothing known);
        faults = fault ∙ ap (λ (n : ℕ). has_fault (trace_of_job job n)) (sym at);
      }

  module _ {a b c : Option (List ℕ)} (v : Written) (was : IsWrittenTo job tree a b v) where
    pub written_on : (w : Written) → Continues job tree b c v w → IsWrittenTo job tree a c w
    written_on w on = record {
      of_run = on.of_run;
      text = subst (Appends a c) on.lines (Appends-append a b c (lines_before job tree (rank job.limit v.mark)) on.more was.text on.text);
      faults = on.faults;
    }

    pub broken_off : Breaks job tree b c v → IsBegun job tree a c
    broken_off off = record {
      upto = off.upto;
      within = off.within;
      text =
          AppendsBeginning-text off.lines
          (AppendsBeginning-behind (lines_before job tree (rank job.limit v.mark)) off.more was.text off.text);
    }
