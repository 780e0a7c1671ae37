-- From what ran and what was written of it to what a run of bytes leaves.
use Rattle.std.proofs.Common.{◌≡◌, ◌≢◌, ℕ, ◌<◌, ◌≤◌, Bool, true, false, if◌then◌else◌, List, [], ◌++◌, append-nil, length, Option}
use Rattle.std.proofs.Common.{None, Some, Result, Ok, Err, IfOk, IfErr, refl, ap, ◌∙◌, sym, subst, inl, inr}
use Rattle.std.specs.List.{list_any}
use Rattle.std.specs.Prelude.{◌↔◌, IsSome, OnOk}
use Rattle.std.specs.Io.KnownBytes.{Appends, Keeps}
use Rattle.dv_time.specs.Time.{end_of}
use Rattle.dv_bag.specs.Bag.{Counts}
use Rattle.dv_bag.specs.declared.inputs.Input.{Input}
use Rattle.dv_devs.specs.Clocks.{least_rank}
use Rattle.dv_devs.specs.Cuts.{trace_between}
use Rattle.dv_devs.specs.Network.{Network, trace_before}
use Rattle.dv_syntax.specs.Trees.{FileTree, file_of}
use Rattle.dv_flat.specs.Links.{paths_of}
use Rattle.dv_inputs.specs.Reading.{reading_of}
use Rattle.dv_partition.specs.Answers.{partition_answer}
use Rattle.dv_partition.specs.Groups.{Grouping}
use Rattle.dv_partition.specs.declared.choice.Partition.{Partition}
use Rattle.dv_plain.specs.Source.{network_of, outside}
use Rattle.dv_run.specs.Runs.{IsCutShort, IsPrinted, IsRunOf, LedTo, lines_before}
use Rattle.dv_core.specs.declared.step.Ended.{Ended}
use Rattle.dv_core.specs.declared.step.Ended.TheVariants as rounds
use Rattle.dv_stream.proofs.Ended.{memory_by_rounds, never_stopped_by_rounds, stalled_by_rounds}
use Rattle.dv_stream.specs.Endings.{by_rounds, why_for}
use Rattle.dv_stream.specs.declared.ran.Ran.{Ran}
use Rattle.dv_stream.specs.declared.ran.RunEnded.{RunEnded}
use Rattle.dv_stream.specs.declared.ran.RunEnded.TheVariants as ran
use Rattle.dv_stream.specs.declared.ran.Why.{Why}
use Rattle.dv_stream.specs.declared.ran.Why.TheVariants as why
use Rattle.dv_work.specs.Endings.{is_caused, lacks_memory}
use Rattle.dv_work.specs.declared.worker.Halt.{Halt}
use Rattle.dv_work.proofs.Endings.{caused_is_some}
use Rattle.dv_written.specs.Faults.{has_fault}
use Rattle.dv_text.specs.declared.writing.Ending.TheVariants as text_end
use Rattle.dv_text.specs.declared.writing.WriteError.{WriteError}
use Rattle.dv_text.specs.declared.writing.WriteError.TheVariants as write
use Rattle.dv_text.specs.Names.{component_names, root_ports}
use Rattle.dv_text.specs.Texts.{ComponentNames, ending_text, instants_text, part_text, partial_ending}
use Rattle.dv_text.specs.Writing.{StopsShort, TakesFront}
use Rattle.dv_text.proofs.Endings.{ending-some}
use Rattle.dv_text.proofs.Taking.{Appends-append, AppendsBeginning-longer, AppendsBeginning-text, StopsShort-behind}
use Rattle.dv_text.proofs.Taking.{StopsShort-from, StopsShort-longer}
use Rattle.dv_job.specs.Halts.{IsCutAs, cause_at}
use Rattle.dv_job.specs.Job.{IsModelOf, run_text}
use Rattle.dv_job.specs.Planned.{AnswersPlan}
use Rattle.dv_job.specs.Running.{EndsBy, EndsByWorkers, IsLed, IsLedShort, IsLedText, IsPlanned, IsTextOf, LeftByRun, PrintsCut, PrintsLed}
use Rattle.dv_job.specs.Running.{PrintsSome, PrintsSomeLed, PrintsWhole, granted}
use Rattle.dv_job.specs.Stepping.{AnswersSteps}
use Rattle.dv_job.specs.Written.{IsUnwritten, end_text, ended_at}
use Rattle.dv_job.specs.declared.options.Options.{Options}
use Rattle.dv_job.specs.declared.ended.JobEnded.{JobEnded}
use Rattle.dv_job.specs.declared.ended.JobEnded.TheVariants as ended
use Rattle.dv_job.specs.declared.ended.JobError.{JobError}
use Rattle.dv_job.specs.declared.ended.JobError.TheVariants as error
use Rattle.dv_inputs.specs.declared.error.InputRefusal.{InputRefusal}
use Rattle.dv_inputs.specs.declared.error.InputsError.{InputsError}
use Rattle.dv_inputs.specs.declared.error.InputsError.TheVariants as input
use Rattle.dv_partition.specs.Answers.{IsErrorOf}
use Rattle.dv_partition.specs.declared.error.PartitionError.{PartitionError}
use Rattle.dv_partition.specs.declared.error.PartitionError.TheVariants as parting
use Rattle.dv_tree.specs.Tables.{Source}
use Rattle.dv_job.specs.Errors.{job_error_of_inputs, job_error_of_partition, job_error_of_write}
use Rattle.dv_job.specs.Loading.{tree_inputs}
use Rattle.dv_job.proofs.Printing.{job_of_tree, kept}

-- a writer that holds what it held has nothing of a text
kept_front : (old new : Option (List ℕ)) (text : List ℕ) → Keeps old new → TakesFront old new text text
kept_front None new text same = record { front = []; whole = refl; appends = tt }
kept_front (Some xs) None text same = absurd same
kept_front (Some xs) (Some ys) text same = record { front = []; whole = refl; appends = same ∙ sym (append-nil xs) }

nothing_more : (old new : Option (List ℕ)) (text : List ℕ) → 0 < length text → Keeps old new → StopsShort old new text
nothing_more old new text some same = StopsShort-from (kept_front old new text same) some

-- the lines of instants are continued by those of what the next instants add
abbrev pub LinesContinue : Type 0
LinesContinue =
    (all : List ComponentNames) (outputs : List (List ℕ)) (limit : ℕ) (net : Network (List Counts)) (inputs : ℕ → List Counts) (n m : ℕ)
    → n ≤ m
    → instants_text all outputs limit net inputs n ++ part_text all outputs (trace_between limit net inputs n m)
    ≡ instants_text all outputs limit net inputs m

-- what ran of a text in rounds, and was printed
abbrev pub RanSo : List (List ℕ) → FileTree → List Input → Grouping → Options → (old new : Option (List ℕ)) → Ran → Type 0
RanSo names f played groups o old new r = IsRunOf names f played groups o.horizon o.limit o.capacity (granted o) old new r

module _ (names : List (List ℕ)) (f : FileTree) (played : List Input) (groups : Grouping) (o : Options)
    (model inputs : List ℕ) (partition : Partition) (planned : IsPlanned model inputs partition o.limit names f groups played) where
  -- a text that was not written to its end
  abbrev stops : {old new : Option (List ℕ)} (text : List ℕ) → IsTextOf names f played groups.processes o.horizon o.limit text
      → StopsShort old new text → PrintsSome model inputs partition o old new
  stops text is written = record {
    names = names;
    file = f;
    groups = groups;
    played = played;
    planned = planned;
    text = text;
    is_text = is;
    written = written;
  }

  -- the same of a text to which rounds led
  led_stops : {old new : Option (List ℕ)} (text : List ℕ) → IsTextOf names f played groups.processes o.horizon o.limit text
      → IsLedText names f played groups o text → StopsShort old new text → PrintsSomeLed model inputs partition o old new
  led_stops text is led written = record { some = stops text is written; led = led }

  -- lines that were cut short are a beginning of the whole text
  cut_short : {old new : Option (List ℕ)} → LinesContinue → IsCutShort names f played o.horizon o.limit old new
      → StopsShort old new (run_text names f played o.horizon o.limit)
  cut_short continue cut =
      StopsShort-longer (ending_text (text_end.Whole o.horizon)) (ending-some (text_end.Whole o.horizon))
      (AppendsBeginning-text
      (continue all ports o.limit (network_of o.limit f) (outside f o.limit played) cut.upto (end_of o.limit o.horizon) cut.within)
      (AppendsBeginning-longer more cut.lines))
    where
      all : List ComponentNames
      all = component_names names f

      ports : List (List ℕ)
      ports = root_ports names f

      more : List ℕ
      more = part_text all ports (trace_between o.limit (network_of o.limit f) (outside f o.limit played) cut.upto
          (end_of o.limit o.horizon))

  pub left_by_cut : {old new : Option (List ℕ)} (e : WriteError) → LinesContinue → IsCutShort names f played o.horizon o.limit old new
      → LeftByRun (job_error_of_write e) model inputs partition o old new
  left_by_cut write.Write continue cut = stops (run_text names f played o.horizon o.limit) (inl refl) (cut_short continue cut)
  left_by_cut write.Memory continue cut = inr (stops (run_text names f played o.horizon o.limit) (inl refl) (cut_short continue cut))

  pub led_by_cut : {old new : Option (List ℕ)} (e : WriteError) → LinesContinue → IsCutShort names f played o.horizon o.limit old new
      → IsLedShort (job_error_of_write e) model inputs partition o old new
  led_by_cut write.Write continue cut =
      led_stops (run_text names f played o.horizon o.limit) (inl refl) (inl refl) (cut_short continue cut)
  led_by_cut write.Memory continue cut =
      inr (led_stops (run_text names f played o.horizon o.limit) (inl refl) (inl refl) (cut_short continue cut))

  module _ (r : Ran) (old mid new : Option (List ℕ)) (printed : IsPrinted names f played groups o.horizon o.limit old mid r) where
    abbrev least : ℕ
    least = least_rank o.limit r.clocks.items

    -- the lines that were written
    abbrev lines : List ℕ
    lines = lines_before names f played o.limit least

    -- with the ending they are a text of the run
    text_of_it : (at : RunEnded) → r.ended ≡ at
        → IsTextOf names f played groups.processes o.horizon o.limit (lines ++ end_text at o.horizon r.clocks.items)
    text_of_it ran.Whole at =
        inl (ap (λ (n : ℕ). lines_before names f played o.limit n ++ ending_text (text_end.Whole o.horizon)) (printed.whole at))
    text_of_it (ran.Cut w) at =
        inr (
          r.clocks.items,
          printed.count,
          printed.some,
          printed.within,
          printed.short (λ whole. absurd (let e = sym at ∙ whole in cc)),
          refl,
        )

    behind : (text : List ℕ) → Appends mid new text → Appends old new (lines ++ text)
    behind text written = Appends-append old mid new lines text printed.lines written

    -- a run to the horizon
    prints_whole : r.ended ≡ ran.Whole → (e : JobEnded) → e ≡ (if r.written.faulted then ended.Faulted else ended.Whole)
        → Appends mid new (ending_text (text_end.Whole o.horizon)) → PrintsWhole model inputs partition o old new e
    prints_whole whole e ending written = record {
      names = names;
      file = f;
      groups = groups;
      played = played;
      planned = planned;
      ending =
          ending
          ∙ ap (λ (b : Bool). if b then ended.Faulted else ended.Whole)
          (printed.faults
          ∙ ap (λ (n : ℕ). has_fault (trace_before o.limit (network_of o.limit f) (outside f o.limit played) n)) (printed.whole whole));
      written =
          subst (λ (n : ℕ). Appends old new (lines_before names f played o.limit n ++ ending_text (text_end.Whole o.horizon)))
          (printed.whole whole) (behind (ending_text (text_end.Whole o.horizon)) written);
    }

    -- a run that is cut
    abbrev prints_cut : {w : Why} → r.ended ≡ ran.Cut w → Appends mid new (partial_ending r.clocks.items)
        → PrintsCut model inputs partition o old new
    prints_cut at written = record {
      names = names;
      file = f;
      groups = groups;
      played = played;
      planned = planned;
      clocks = r.clocks.items;
      count = printed.count;
      some = printed.some;
      within = printed.within;
      short = printed.short (λ whole. absurd (let e = sym at ∙ whole in cc));
      written = behind (partial_ending r.clocks.items) written;
    }

    -- whichever way the writing of the ending failed
    left_unwritten : (e : JobError) (text : List ℕ) → 0 < length text
        → IsTextOf names f played groups.processes o.horizon o.limit (lines ++ text)
        → IsUnwritten e text mid new → LeftByRun e model inputs partition o old new
    left_unwritten (error.Text r) text some is unwritten = absurd unwritten
    left_unwritten (error.Partition r) text some is unwritten = absurd unwritten
    left_unwritten (error.Inputs r) text some is unwritten = absurd unwritten
    left_unwritten error.Write text some is short = stops (lines ++ text) is (StopsShort-behind lines text printed.lines short)
    left_unwritten error.Memory text some is (inl same) =
        inr (stops (lines ++ text) is (StopsShort-behind lines text printed.lines (nothing_more mid new text some same)))
    left_unwritten error.Memory text some is (inr short) =
        inr (stops (lines ++ text) is (StopsShort-behind lines text printed.lines short))

    ending_is_some : (at : RunEnded) → 0 < length (end_text at o.horizon r.clocks.items)
    ending_is_some ran.Whole = ending-some (text_end.Whole o.horizon)
    ending_is_some (ran.Cut w) = ending-some (text_end.Partial r.clocks)

    -- whatever became of it
    pub if_it_was_left : (result : Result JobEnded JobError)
        → IfErr result (λ (e : JobError). IsUnwritten e (end_text r.ended o.horizon r.clocks.items) mid new)
        → IfErr result (λ (e : JobError). LeftByRun e model inputs partition o old new)
    if_it_was_left (Ok e) unwritten = tt
    if_it_was_left (Err e) unwritten =
        left_unwritten e (end_text r.ended o.horizon r.clocks.items) (ending_is_some r.ended) (text_of_it r.ended refl) unwritten

    -- a whole run is faulted or not
    ends_whole : (Ends : JobEnded → Type 0) → (PrintsWhole model inputs partition o old new ended.Whole → Ends ended.Whole)
        → (PrintsWhole model inputs partition o old new ended.Faulted → Ends ended.Faulted) → r.ended ≡ ran.Whole
        → Appends mid new (ending_text (text_end.Whole o.horizon)) → Ends (if r.written.faulted then ended.Faulted else ended.Whole)
    ends_whole Ends well badly whole written =
        by_fault r.written.faulted (prints_whole whole (if r.written.faulted then ended.Faulted else ended.Whole) refl written)
      where
        by_fault : (b : Bool) → PrintsWhole model inputs partition o old new (if b then ended.Faulted else ended.Whole)
            → Ends (if b then ended.Faulted else ended.Whole)
        by_fault true prints = badly prints
        by_fault false prints = well prints

  -- a run in rounds
  module _ (r : Ran) (old mid new : Option (List ℕ)) (is : RanSo names f played groups o old mid r) where
    -- how its rounds ended, where it is cut
    rounds_so : {w : Why} → r.ended ≡ ran.Cut w → by_rounds is.ended ≡ ran.Cut w
    rounds_so at = sym (is.ended_so (λ whole. absurd (let e = sym at ∙ whole in cc))) ∙ at

    ends_so : (at : RunEnded) → r.ended ≡ at → Appends mid new (end_text at o.horizon r.clocks.items)
        → EndsBy (ended_at at r.written.faulted) model inputs partition o old new
    ends_so ran.Whole at written =
        ends_whole r old mid new is.printed (λ (e : JobEnded). EndsBy e model inputs partition o old new) (λ p. p) (λ p. p) at written
    ends_so (ran.Cut why.Rounds) at written = (prints_cut r old mid new is.printed at written, is.stalls at o.in_range.some_capacity)
    ends_so (ran.Cut why.Memory) at written = prints_cut r old mid new is.printed at written
    ends_so (ran.Cut why.Stopped) at written = absurd (never_stopped_by_rounds is.ended (rounds_so at))

    led_at : {w : Why} (at : r.ended ≡ ran.Cut w) (e : Ended) → is.ended ≡ e → Appends mid new (partial_ending r.clocks.items)
        → PrintsLed model inputs partition o old new e
    led_at at e so written = record {
      cut = prints_cut r old mid new is.printed at written;
      led = subst (λ (x : Ended). LedTo f played groups o.horizon o.limit o.capacity (granted o) x r.clocks.items) so is.led;
    }

    led_whole : (faulted : Bool) → IsLed (ended_at ran.Whole faulted) model inputs partition o old new
    led_whole true = tt
    led_whole false = tt

    led_so : (at : RunEnded) → r.ended ≡ at → Appends mid new (end_text at o.horizon r.clocks.items)
        → IsLed (ended_at at r.written.faulted) model inputs partition o old new
    led_so ran.Whole at written = led_whole r.written.faulted
    led_so (ran.Cut why.Rounds) at written = led_at at rounds.Stalled (stalled_by_rounds is.ended (rounds_so at)) written
    led_so (ran.Cut why.Memory) at written = led_at at rounds.Memory (memory_by_rounds is.ended (rounds_so at)) written
    led_so (ran.Cut why.Stopped) at written = absurd (never_stopped_by_rounds is.ended (rounds_so at))

    -- the lines with the ending are a text to which the rounds led
    led_text : (at : RunEnded) → r.ended ≡ at
        → IsLedText names f played groups o (lines r old mid new is.printed ++ end_text at o.horizon r.clocks.items)
    led_text ran.Whole at =
        inl (ap (λ (n : ℕ). lines_before names f played o.limit n ++ ending_text (text_end.Whole o.horizon)) (is.printed.whole at))
    led_text (ran.Cut w) at = inr (r.clocks.items, is.ended, is.led, refl)

    -- whichever way the writing of the ending failed
    led_unwritten : (e : JobError) (text : List ℕ) → 0 < length text
        → IsTextOf names f played groups.processes o.horizon o.limit (lines r old mid new is.printed ++ text)
        → IsLedText names f played groups o (lines r old mid new is.printed ++ text)
        → IsUnwritten e text mid new → IsLedShort e model inputs partition o old new
    led_unwritten (error.Text x) text some is_text led unwritten = absurd unwritten
    led_unwritten (error.Partition x) text some is_text led unwritten = absurd unwritten
    led_unwritten (error.Inputs x) text some is_text led unwritten = absurd unwritten
    led_unwritten error.Write text some is_text led short =
        led_stops (lines r old mid new is.printed ++ text) is_text led
        (StopsShort-behind (lines r old mid new is.printed) text is.printed.lines short)
    led_unwritten error.Memory text some is_text led (inl same) =
        inr (led_stops (lines r old mid new is.printed ++ text) is_text led
        (StopsShort-behind (lines r old mid new is.printed) text is.printed.lines (nothing_more mid new text some same)))
    led_unwritten error.Memory text some is_text led (inr short) =
        inr (led_stops (lines r old mid new is.printed ++ text) is_text led
        (StopsShort-behind (lines r old mid new is.printed) text is.printed.lines short))

    pub if_it_was_led_short : (result : Result JobEnded JobError)
        → IfErr result (λ (e : JobError). IsUnwritten e (end_text r.ended o.horizon r.clocks.items) mid new)
        → IfErr result (λ (e : JobError). IsLedShort e model inputs partition o old new)
    if_it_was_led_short (Ok e) unwritten = tt
    if_it_was_led_short (Err e) unwritten =
        led_unwritten e (end_text r.ended o.horizon r.clocks.items) (ending_is_some r old mid new is.printed r.ended)
        (text_of_it r old mid new is.printed r.ended refl) (led_text r.ended refl) unwritten

    pub if_it_is_led : (result : Result JobEnded JobError) → IfOk result (λ (e : JobEnded). e ≡ ended_at r.ended r.written.faulted)
        → OnOk result (Appends mid new (end_text r.ended o.horizon r.clocks.items))
        → IfOk result (λ (e : JobEnded). IsLed e model inputs partition o old new)
    if_it_is_led (Ok e) ending written =
        subst (λ (e : JobEnded). IsLed e model inputs partition o old new) (sym ending) (led_so r.ended refl written)
    if_it_is_led (Err e) ending written = tt

    pub if_it_ended : (result : Result JobEnded JobError) → IfOk result (λ (e : JobEnded). e ≡ ended_at r.ended r.written.faulted)
        → OnOk result (Appends mid new (end_text r.ended o.horizon r.clocks.items))
        → IfOk result (λ (e : JobEnded). EndsBy e model inputs partition o old new)
    if_it_ended (Ok e) ending written =
        subst (λ (e : JobEnded). EndsBy e model inputs partition o old new) (sym ending) (ends_so r.ended refl written)
    if_it_ended (Err e) ending written = tt

  -- a run by workers
  module _ (r : Ran) (old mid new : Option (List ℕ)) (is : IsPrinted names f played groups o.horizon o.limit old mid r)
      (unstalled : r.ended ≡ ran.Cut why.Rounds → ⊥)
    where
      worked_so : (at : RunEnded) → r.ended ≡ at → Appends mid new (end_text at o.horizon r.clocks.items)
          → EndsByWorkers (ended_at at r.written.faulted) model inputs partition o old new
      worked_so ran.Whole at written =
          ends_whole r old mid new is (λ (e : JobEnded). EndsByWorkers e model inputs partition o old new) (λ p. p) (λ p. p) at written
      worked_so (ran.Cut why.Rounds) at written = absurd (unstalled at)
      worked_so (ran.Cut why.Memory) at written = prints_cut r old mid new is at written
      worked_so (ran.Cut why.Stopped) at written = prints_cut r old mid new is at written

      pub if_workers_ended : (result : Result JobEnded JobError) → IfOk result (λ (e : JobEnded). e ≡ ended_at r.ended r.written.faulted)
          → OnOk result (Appends mid new (end_text r.ended o.horizon r.clocks.items))
          → IfOk result (λ (e : JobEnded). EndsByWorkers e model inputs partition o old new)
      if_workers_ended (Ok e) ending written =
          subst (λ (e : JobEnded). EndsByWorkers e model inputs partition o old new) (sym ending) (worked_so r.ended refl written)
      if_workers_ended (Err e) ending written = tt

-- a run by workers is cut as its workers' halts say
pub cut_as_said : {C : Type 0} (r : Ran) (halts : List (Option (Halt C))) → (r.ended ≢ ran.Whole → r.ended ≡ ran.Cut (why_for halts))
    → IsCutAs halts (ended_at r.ended r.written.faulted)
cut_as_said {C} r halts said = at r.ended refl r.written.faulted
  where
    same : {a b : Why} → ran.Cut a ≡ ran.Cut b → a ≡ b
    same e = cc

    at : (e : RunEnded) → r.ended ≡ e → (faulted : Bool) → IsCutAs halts (ended_at e faulted)
    at ran.Whole is true = tt
    at ran.Whole is false = tt
    at (ran.Cut w) is faulted =
        same (sym is ∙ said (λ whole. let e : ran.Cut w ≡ ran.Whole = sym is ∙ whole in absurd (cc)))

-- there is a cause exactly where the answer is that the run was stopped
pub told_where_stopped : {C : Type 0} (halts : List (Option (Halt C))) (e : JobEnded) → IsCutAs halts e
    → IsSome (cause_at e halts) ↔ (e ≡ ended.Partial why.Stopped)
told_where_stopped halts ended.Whole as_said = (λ some. absurd (cc), λ e. absurd (cc))
told_where_stopped halts ended.Faulted as_said = (λ some. absurd (cc), λ e. absurd (cc))
told_where_stopped halts (ended.Partial why.Rounds) as_said = (λ some. absurd (cc), λ e. absurd (cc))
told_where_stopped halts (ended.Partial why.Memory) as_said = (λ some. absurd (cc), λ e. absurd (cc))
told_where_stopped halts (ended.Partial why.Stopped) as_said =
    (λ some. refl, λ e. caused_is_some halts (stopped_for (list_any lacks_memory halts) (list_any is_caused halts) as_said))
  where
    stopped_for : (memory is_caused : Bool)
        → why.Stopped ≡ (if memory then why.Memory else if is_caused then why.Stopped else why.Memory) → is_caused ≡ true
    stopped_for true is_caused e = absurd (cc)
    stopped_for false true e = refl
    stopped_for false false e = absurd (cc)

-- a model, its inputs and its groups, all read
pub planned_tree : (model inputs : List ℕ) (partition : Partition) (limit : ℕ) (tree : Source) (groups : Grouping) (played : List Input)
    → IsModelOf model tree.names (file_of tree.file) → partition_answer (paths_of tree.names (file_of tree.file)) partition ≡ Ok groups
    → reading_of inputs (tree_inputs tree) limit ≡ Ok played
    → IsPlanned model inputs partition limit tree.names (file_of tree.file) groups played
planned_tree model inputs partition limit tree groups played m cut read = record {
  job = job_of_tree model inputs limit tree played m read;
  parted = cut;
}

-- no plan of a partition that is refused
pub unplanned : (e : PartitionError) (model : List ℕ) (partition : Partition) (tree : Source)
    → IsModelOf model tree.names (file_of tree.file)
    → IsErrorOf (partition_answer (paths_of tree.names (file_of tree.file)) partition) e
    → AnswersPlan model partition (job_error_of_partition e)
unplanned (parting.Refused r) model partition tree m refused =
    record { names = tree.names; file = file_of tree.file; accepted = m; refused = refused }
unplanned parting.Memory model partition tree m refused = tt

-- what is left where no run was set up
pub left_by_answer : (e : JobError) (model inputs : List ℕ) (partition : Partition) (o : Options) (old : Option (List ℕ))
    → AnswersSteps model inputs partition o.limit e → LeftByRun e model inputs partition o old old
left_by_answer (error.Text e) model inputs partition o old h = (h, kept old)
left_by_answer (error.Partition r) model inputs partition o old h = (h, kept old)
left_by_answer (error.Inputs r) model inputs partition o old h = (h, kept old)
left_by_answer error.Write model inputs partition o old h = absurd h
left_by_answer error.Memory model inputs partition o old h = inl (kept old)

pub led_by_answer : (e : JobError) (model inputs : List ℕ) (partition : Partition) (o : Options) (old : Option (List ℕ))
    → AnswersSteps model inputs partition o.limit e → IsLedShort e model inputs partition o old old
led_by_answer (error.Text e) model inputs partition o old h = tt
led_by_answer (error.Partition r) model inputs partition o old h = tt
led_by_answer (error.Inputs r) model inputs partition o old h = tt
led_by_answer error.Write model inputs partition o old h = absurd h
led_by_answer error.Memory model inputs partition o old h = inl (kept old)

-- ---- A run is set up

-- nothing is set up of a partition that is refused
pub unstepped_groups : (e : PartitionError) (model inputs : List ℕ) (partition : Partition) (limit : ℕ) (tree : Source)
    → IsModelOf model tree.names (file_of tree.file)
    → IsErrorOf (partition_answer (paths_of tree.names (file_of tree.file)) partition) e
    → AnswersSteps model inputs partition limit (job_error_of_partition e)
unstepped_groups (parting.Refused r) model inputs partition limit tree m refused =
    record { names = tree.names; file = file_of tree.file; accepted = m; refused = refused }
unstepped_groups parting.Memory model inputs partition limit tree m refused = tt

-- nor where the inputs were not read
pub unstepped_inputs : (e : InputsError) (model inputs : List ℕ) (partition : Partition) (limit : ℕ) (tree : Source) (groups : Grouping)
    → IsModelOf model tree.names (file_of tree.file)
    → partition_answer (paths_of tree.names (file_of tree.file)) partition ≡ Ok groups
    → ((r : InputRefusal) → ◌≡◌ {A = Result (List Input) InputsError} (Err e) (Err (input.Refused r))
    → reading_of inputs (tree_inputs tree) limit ≡ Err r)
    → AnswersSteps model inputs partition limit (job_error_of_inputs e)
unstepped_inputs (input.Refused r) model inputs partition limit tree groups m cut refused = record {
  names = tree.names;
  file = file_of tree.file;
  groups = groups;
  accepted = m;
  parted = cut;
  refused = refused r refl;
}
unstepped_inputs input.Memory model inputs partition limit tree groups m cut refused = tt
