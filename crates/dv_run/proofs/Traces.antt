-- What was written of a text that ran in processes: the lines of the text's own trace.
use Rattle.std.proofs.Common.{◌≡◌, ◌≢◌, ℕ, ◌+◌, ◌<◌, ◌≤◌, inl, inr, true, nat_eq, List, length, Option, Some, None}
use Rattle.std.proofs.Common.{Result, Ok, Err, IfOk, slice_index_or, refl, sym, ap, ◌∙◌, subst, arith}
use Rattle.std.proofs.lemmas.Bool.{cases_lt}
use Rattle.std.proofs.lemmas.Option.{slice_get-get_or}
use Rattle.std.specs.Prelude.{◌↔◌}
use Rattle.std.specs.List.{slice_get}
use Rattle.std.specs.Io.KnownBytes.{Appends}
use Rattle.dv_time.specs.Time.{IsOfRun, end_of, rank}
use Rattle.dv_time.specs.declared.time.Time.{Time}
use Rattle.dv_bag.specs.declared.inputs.Input.{Input}
use Rattle.dv_check.specs.Refusals.{refusal_of}
use Rattle.dv_check.specs.Writable.{IsWritable}
use Rattle.dv_syntax.specs.Trees.{FileTree, file_of}
use Rattle.dv_devs.specs.Clocks.{least_rank}
use Rattle.dv_devs.specs.Network.{trace_before}
use Rattle.dv_conservative.specs.Flat.{whole}
use Rattle.dv_conservative.specs.World.{Channel, Job, Reply, World, new_world}
use Rattle.dv_conservative.specs.World.{Step as Does}
use Rattle.dv_core.specs.Worlds.{EndsAs, IsRunWithProgress, end_time, with_replies}
use Rattle.dv_core.proofs.Driving.{enough_rounds}
use Rattle.dv_core.specs.declared.step.Step.{Step}
use Rattle.dv_core.specs.declared.step.Ended.{Ended}
use Rattle.dv_core.specs.declared.step.Ended.TheVariants.{Stalled}
use Rattle.dv_plain.specs.Source.{network_of, outside}
use Rattle.dv_run.specs.Texts.{text_job}
use Rattle.dv_run.specs.declared.text_job.TextJob.{TextJob}
use Rattle.dv_plan.specs.Runs.{HasRun, HasStepped}
use Rattle.dv_plan.specs.declared.ran.Committed.{Committed}
use Rattle.dv_plan.specs.declared.ran.Stepped.{Stepped}
use Rattle.law_rules.specs.Jobs.{job_by_rules}
use Rattle.law_sound.specs.Members.{flat_of}
use Rattle.dv_partition.specs.Groups.{owner_of}
use Rattle.dv_text.specs.Names.{component_names, root_ports}
use Rattle.dv_text.specs.Texts.{instants_text, part_text}
use Rattle.dv_text.specs.Writing.{AppendsBeginning}
use Rattle.dv_text.proofs.Taking.{AppendsBeginning-nothing}
use Rattle.dv_stream.specs.Clocks.{AreWithin}
use Rattle.dv_written.specs.Faults.{has_fault}
use Rattle.dv_stream.specs.Written.{IsBegun, IsWrittenTo}
use Rattle.dv_stream.specs.Endings.{HasRunInRounds, by_rounds}
use Rattle.dv_stream.specs.declared.ran.Ran.{Ran}
use Rattle.dv_stream.specs.declared.ran.RunEnded.TheVariants as told
use Rattle.dv_stream.specs.declared.ran.Why.TheVariants as why
use Rattle.dv_text.specs.declared.writing.WriteError.{WriteError}
use Rattle.dv_plan.proofs.LeastClock.{AllOfRun, least_below, least_of_same}
use Rattle.dv_stream.proofs.Ended.{stalled_by_rounds}
use Rattle.dv_stream.proofs.ToldClocks.{same_rank}
use Rattle.dv_work.proofs.Lists.{at_index}
use Rattle.dv_run.specs.Runs.{IsCutShort, IsPrinted, IsRunOf, IsStepped, lines_before}
use Rattle.dv_run.specs.Traces.{PartsOfTheText, TraceLaws}

-- ---- The flat model of a text has the text's lines

module _ (names : List (List ℕ)) (f : FileTree) (played : List Input) (limit : ℕ) (writable : IsWritable f)
    (accepted : refusal_of f ≡ None) (laws : TraceLaws f limit) where
  pub same_trace : (n : ℕ) → trace_before limit (whole (flat_of limit f)) (outside f limit played) n
      ≡ trace_before limit (network_of limit f) (outside f limit played) n
  same_trace n =
      sym (laws.all limit (whole (flat_of limit f)) (outside f limit played) n laws.flat.numbered)
      ∙ laws.parts f played limit n (λ k. true) writable accepted
      ∙ laws.all limit (network_of limit f) (outside f limit played) n laws.ready.numbered

  pub same_lines : (n : ℕ)
      → instants_text (component_names names f) (root_ports names f) limit (whole (flat_of limit f)) (outside f limit played) n
      ≡ lines_before names f played limit n
  same_lines n =
      let all = component_names names f in
      let ports = root_ports names f in
      sym (laws.lines all ports limit (whole (flat_of limit f)) (outside f limit played) n)
      ∙ ap (part_text all ports) (same_trace n)
      ∙ laws.lines all ports limit (network_of limit f) (outside f limit played) n

-- ---- Clocks of a run that is cut

pub plus_nothing : (x : ℕ) → x + 0 ≡ x
plus_nothing x = omega arith

-- Where not all clocks are at the end, and none is past it, the least is before it.
pub cut_before_end : (job : Job) (clocks : List Time) → 0 < length clocks → AreWithin job.horizon job.limit clocks
    → (((p : ℕ) (t : Time) → slice_get clocks p ≡ Some t → t ≡ end_time job) → ⊥)
    → least_rank job.limit clocks < end_of job.limit job.horizon
cut_before_end job clocks some within not_all = elim (cases_lt (least_rank job.limit clocks) (end_of job.limit job.horizon)) [
  | inl less ↦ less
  | inr more ↦ absurd (not_all (λ p t at.
      let is = at_index (λ (u : Time). IsOfRun job.limit u × (rank job.limit u ≤ end_of job.limit job.horizon)) clocks p t within at in
      let low = least_below job.limit clocks p t at in
      let end : rank job.limit (end_time job) ≡ end_of job.limit job.horizon = plus_nothing (end_of job.limit job.horizon) in
      same_rank job.limit t (end_time job) is.0 (omega arith)
      (let high = is.1 in omega (arith, low, more, high, end))))
]

-- ---- What ran, printed

module _ (j : TextJob) (writable : IsWritable (file_of j.tree.now.file)) (accepted : refusal_of (file_of j.tree.now.file) ≡ None)
    (laws : TraceLaws (file_of j.tree.now.file) j.limit) {old new : Option (List ℕ)} where
  -- up to the least of the clocks that were reached
  pub is_printed : (r : Ran) → IsWrittenTo (text_job j) j.tree.now old new r.written
      → rank j.limit r.written.mark ≡ least_rank j.limit r.clocks.items
      → 0 < length r.clocks.items → length r.clocks.items ≡ (text_job j).processes
      → AreWithin j.horizon j.limit r.clocks.items
      → (r.ended ≡ told.Whole) ↔ ((p : ℕ) (t : Time) → slice_get r.clocks.items p ≡ Some t → t ≡ end_time (text_job j))
      → IsPrinted j.tree.now.names (file_of j.tree.now.file) j.inputs.now j.groups.now j.horizon j.limit old new r
  is_printed r written mark some count within whole = record {
    lines =
        subst (λ (n : ℕ). Appends old new (lines_before j.tree.now.names (file_of j.tree.now.file) j.inputs.now j.limit n)) mark
        (subst (Appends old new) (same_lines j.tree.now.names (file_of j.tree.now.file) j.inputs.now j.limit writable accepted laws
        (rank j.limit r.written.mark)) written.text);
    faults =
        written.faults
        ∙ ap has_fault (same_trace j.tree.now.names (file_of j.tree.now.file) j.inputs.now j.limit writable accepted laws
        (rank j.limit r.written.mark))
        ∙ ap (λ (n : ℕ). has_fault (trace_before j.limit (network_of j.limit (file_of j.tree.now.file))
        (outside (file_of j.tree.now.file) j.limit j.inputs.now) n)) mark;
    some = some;
    count = count;
    within = within;
    whole = λ e.
        least_of_same j.limit (end_of j.limit j.horizon) r.clocks.items some
        (λ p t at. ap (rank j.limit) (whole.0 e p t at) ∙ plus_nothing (end_of j.limit j.horizon));
    short = λ partial. cut_before_end (text_job j) r.clocks.items some within (λ all. partial (whole.1 all));
  }

  pub is_cut_short : IsBegun (text_job j) j.tree.now old new
      → IsCutShort j.tree.now.names (file_of j.tree.now.file) j.inputs.now j.horizon j.limit old new
  is_cut_short begun = record {
    upto = begun.upto;
    within = begun.within;
    lines =
        subst (AppendsBeginning old new) (same_lines j.tree.now.names (file_of j.tree.now.file) j.inputs.now j.limit writable accepted laws
        begun.upto) begun.text;
  }

-- ---- In rounds

-- rounds by programs are rounds by rules
abbrev pub job_of_rules : TextJob → Job
job_of_rules j =
    job_by_rules j.limit j.horizon (file_of j.tree.now.file) j.inputs.now j.groups.now.processes (owner_of j.groups.now)

abbrev pub EndByRules : TextJob → (capacity rounds : ℕ) → Type 0
EndByRules j capacity rounds =
    (ended : Ended) (w : World) → EndsAs (text_job j) rounds ended (new_world capacity) w
    → EndsAs (job_of_rules j) rounds ended (new_world capacity) w

module _ (j : TextJob) (capacity rounds : ℕ) (c : Committed) (ran : HasRun (text_job j) capacity rounds c) where
  abbrev ran_job : Job
  ran_job = text_job j

  pub ran_of_run : AllOfRun j.limit c.clocks.items
  ran_of_run p t at = let h = ran.handed.within p t at in h.0

  pub each_clock : (r : Ran) → r.clocks ≡ c.clocks → length r.clocks.items ≡ ran_job.processes
  each_clock r same = ap (λ ts. length ts.items) same ∙ ran.handed.count

  pub ran_within : AreWithin j.horizon j.limit c.clocks.items
  ran_within = λ k d lt. ran.handed.within k (slice_index_or c.clocks.items k d) (slice_get-get_or c.clocks.items k d lt)

  pub some_clocks : 0 < ran_job.processes → 0 < length c.clocks.items
  some_clocks some = subst (λ (n : ℕ). 0 < n) (sym ran.handed.count) some

  -- enough rounds do not stall
  pub unstalled : ((l : ℕ) (ch : Channel) → slice_get ran_job.channels l ≡ Some ch
      → (ch.source < ran_job.processes) × (ch.target < ran_job.processes))
      → 0 < capacity → end_of ran_job.limit ran_job.horizon + 1 ≤ rounds → c.ended ≢ Stalled
  unstalled ends some enough e =
      let h : EndsAs ran_job rounds Stalled (new_world capacity) ran.world
      = subst (λ (x : Ended). EndsAs ran_job rounds x (new_world capacity) ran.world) e ran.ends in
      h.1 (enough_rounds ran_job capacity rounds (new_world capacity) ran.world refl some ends enough h.0)

  pub is_run : {old new : Option (List ℕ)} (r : Ran) → r.clocks ≡ c.clocks → (r.ended ≢ told.Whole → r.ended ≡ by_rounds c.ended)
      → IsPrinted j.tree.now.names (file_of j.tree.now.file) j.inputs.now j.groups.now j.horizon j.limit old new r
      → (0 < capacity → end_of j.limit j.horizon + 1 ≤ rounds → r.ended ≢ told.Cut why.Rounds) → EndByRules j capacity rounds
      → IsRunOf j.tree.now.names (file_of j.tree.now.file) j.inputs.now j.groups.now j.horizon j.limit capacity rounds old new r
  is_run r same ended printed enough by_rules = record {
    printed = printed;
    stalls = λ e holds. elim (cases_lt (end_of j.limit j.horizon) rounds) [
      | inl more ↦ absurd (enough holds (omega (arith, more)) e)
      | inr less ↦ less
    ];
    ended = c.ended;
    ended_so = ended;
    led = record {
      world = ran.world;
      ends = by_rules c.ended ran.world ran.ends;
      count = each_clock r same;
      clocks = λ p t at. ran.handed.clocks p t (ap (λ ts. slice_get ts.items p) (sym same) ∙ at);
    };
  }

-- what rounds lead to where there are enough of them
pub enough_of : (j : TextJob) (capacity rounds : ℕ) → ((l : ℕ) (ch : Channel) → slice_get (text_job j).channels l ≡ Some ch
    → (ch.source < (text_job j).processes) × (ch.target < (text_job j).processes))
    → (r : Result Ran WriteError) → IfOk r (HasRunInRounds (text_job j) capacity rounds)
    → IfOk r (λ (x : Ran). 0 < capacity → end_of (text_job j).limit (text_job j).horizon + 1 ≤ rounds → x.ended ≢ told.Cut why.Rounds)
enough_of j capacity rounds ends (Ok r) h = λ some enough cut.
    unstalled j capacity rounds h.committed h.run ends some enough
    (stalled_by_rounds h.committed.ended (sym (h.ended (λ whole. absurd (let e = sym cut ∙ whole in cc))) ∙ cut))
enough_of j capacity rounds ends (Err e) h = tt

-- ---- Steps

-- steps by programs are steps by rules
abbrev pub StepByRules : TextJob → (capacity : ℕ) → Type 0
StepByRules j capacity =
    (steps : List (Does × Reply)) (w : World) → IsRunWithProgress (text_job j) steps (new_world capacity) w
    → IsRunWithProgress (job_of_rules j) steps (new_world capacity) w

pub is_stepped : (j : TextJob) → IsWritable (file_of j.tree.now.file)
    → refusal_of (file_of j.tree.now.file) ≡ None → PartsOfTheText → (capacity : ℕ) (steps : List Step) (s : Stepped)
    → StepByRules j capacity → HasStepped (text_job j) capacity steps s
    → IsStepped (file_of j.tree.now.file) j.inputs.now j.groups.now j.horizon j.limit capacity steps s
is_stepped j writable accepted parts capacity steps s by_rules h = record {
  world = h.world;
  run = by_rules (with_replies steps s.replies.items) h.world h.run;
  each = h.each;
  clocks = h.handed.clocks;
  count = (h.handed.count, h.handed.long);
  parts = λ p x t there at.
      h.handed.parts p x t there at
      ∙ parts (file_of j.tree.now.file) j.inputs.now j.limit (rank j.limit t) (λ k. nat_eq (owner_of j.groups.now k) p) writable accepted;
}

-- ---- What failed

-- nothing was printed
pub nothing_printed : (names : List (List ℕ)) (f : FileTree) (played : List Input) (horizon limit : ℕ) (known : Option (List ℕ))
    → IsCutShort names f played horizon limit known known
nothing_printed names f played horizon limit known =
    record { upto = 0; within = omega arith; lines = AppendsBeginning-nothing known (lines_before names f played limit 0) }
