-- What was written, mark after mark.
use Rattle.std.proofs.Common.{◌≡◌, ℕ, ◌+◌, ◌-◌, ◌≤◌, ◌||◌, Bool, true, false, List, ◌++◌, Option, Result, Ok, Err, IfOk, OnErr}
use Rattle.std.proofs.Common.{refl, sym, ap, subst, ◌∙◌, arith}
use Rattle.std.specs.Prelude.{OnOk}
use Rattle.std.specs.Io.KnownBytes.{Appends}
use Rattle.std.proofs.lemmas.List.Folds.{list_any-append}
use Rattle.dv_time.specs.Time.{IsOfRun, end_of, rank}
use Rattle.dv_time.specs.declared.time.Time.{Time}
use Rattle.dv_bag.specs.Bag.{Counts}
use Rattle.dv_bag.specs.Part.{PartOf, joined, nothing}
use Rattle.dv_bag.specs.declared.entry.Entry.{Entry}
use Rattle.dv_devs.specs.Cuts.{trace_between}
use Rattle.dv_devs.specs.Network.{Network, all_before, trace_at, trace_before}
use Rattle.dv_devs.proofs.Cuts.{join_between}
use Rattle.dv_board.specs.Clocks.{IsNoLater}
use Rattle.dv_board.specs.Jobs.{trace}
use Rattle.dv_conservative.specs.Flat.{whole}
use Rattle.dv_conservative.specs.Process.{first_time}
use Rattle.dv_conservative.specs.World.{Job}
use Rattle.dv_tree.specs.Tables.{Source}
use Rattle.dv_text.specs.Names.{tree_names, tree_ports}
use Rattle.dv_text.specs.Texts.{ComponentNames, instants_text, part_text}
use Rattle.dv_text.specs.Writing.{AppendsBeginning}
use Rattle.dv_text.proofs.Taking.{Appends-append, Appends-nothing, AppendsBeginning-behind, AppendsBeginning-from}
use Rattle.dv_text.proofs.Taking.{AppendsBeginning-nothing, AppendsBeginning-text, TakesFront-all}
use Rattle.dv_text.specs.declared.writing.WriteError.{WriteError}
use Rattle.dv_written.specs.Faults.{has_fault, is_fault}
use Rattle.dv_stream.specs.Written.{Falters, GoesOn, IsBegun, IsWrittenTo, lines_before, lines_between}
use Rattle.dv_stream.specs.declared.written.Written.{Written}

-- the lines of instants are continued by those of what the next instants add
abbrev pub LinesContinue : Type 0
LinesContinue =
    (all : List ComponentNames) (outputs : List (List ℕ)) (limit : ℕ) (net : Network (List Counts)) (inputs : ℕ → List Counts) (n m : ℕ)
    → n ≤ m
    → instants_text all outputs limit net inputs n ++ part_text all outputs (trace_between limit net inputs n m)
    ≡ instants_text all outputs limit net inputs m

pub fault_of_both : (p q : PartOf) → has_fault (joined p q) ≡ (has_fault p || has_fault q)
fault_of_both p q = list_any-append (λ (e : Entry). is_fault e.what) p.entries q.entries

module _ (job : Job) (tree : Source) (continue : LinesContinue) where
  abbrev trace_to : ℕ → PartOf
  trace_to n = trace_before job.limit (whole job.flat) job.outside n

  lines_go_on : (from upto : Time) → rank job.limit from ≤ rank job.limit upto
      → lines_before job tree (rank job.limit from) ++ lines_between job tree from upto ≡ lines_before job tree (rank job.limit upto)
  lines_go_on from upto le =
      continue (tree_names tree) (tree_ports tree) job.limit (whole job.flat) job.outside (rank job.limit from) (rank job.limit upto) le

  -- before the first time there is nothing
  pub nothing_written : (known : Option (List ℕ)) (w : Written) → w.mark ≡ first_time → w.faulted ≡ false
      → IsWrittenTo job tree known known w
  nothing_written known w mark fault =
      let first : rank job.limit first_time ≡ 0 = omega arith in
      let at : rank job.limit w.mark ≡ 0 = ap (rank job.limit) mark ∙ first in
      record {
        of_run = subst (λ (t : Time). t.micro ≤ job.limit) (sym mark) (omega arith);
        text = subst (λ (n : ℕ). Appends known known (lines_before job tree n)) (sym at) (Appends-nothing known);
        faults = fault ∙ ap (λ (n : ℕ). has_fault (trace_to n)) (sym at);
      }

  module _ {a b c : Option (List ℕ)} (v : Written) (was : IsWrittenTo job tree a b v) where
    pub written_further : (w : Written) → GoesOn job tree b c v w → IsWrittenTo job tree a c w
    written_further w more = record {
      of_run = more.of_run;
      text =
          subst (Appends a c) (lines_go_on v.mark w.mark more.order)
          (Appends-append a b c (lines_before job tree (rank job.limit v.mark)) (lines_between job tree v.mark w.mark) was.text more.text);
      faults =
          let n = rank job.limit v.mark in
          let m = rank job.limit w.mark in
          let added = trace_between job.limit (whole job.flat) job.outside n m in
          more.faults
          ∙ ap (λ (t : Bool). t || has_fault added) was.faults
          ∙ sym (fault_of_both (trace_to n) added)
          ∙ ap has_fault (join_between (trace_at job.limit (whole job.flat) job.outside) n m more.order);
    }

    pub begun_from : Falters job tree b c v → IsBegun job tree a c
    begun_from short = record {
      upto = rank job.limit short.upto;
      within = short.within;
      text =
          AppendsBeginning-text (lines_go_on v.mark short.upto short.order)
          (AppendsBeginning-behind (lines_before job tree (rank job.limit v.mark)) (lines_between job tree v.mark short.upto)
          was.text short.text);
    }

-- ---- A piece of the trace that was written

abbrev pub text_of : Source → PartOf → List ℕ
text_of tree p = part_text (tree_names tree) (tree_ports tree) p

module _ (job : Job) (tree : Source) (old new : Option (List ℕ)) (v : Written) (upto : Time) (piece : PartOf)
    (is : piece ≡ trace job v.mark upto) (order : IsNoLater job v.mark upto) where
  pub goes_on : IsOfRun job.limit upto → (r : Result Written WriteError) → OnOk r (Appends old new (text_of tree piece))
      → IfOk r (λ w. w.mark ≡ upto) → IfOk r (λ w. w.faulted ≡ (v.faulted || has_fault piece)) → IfOk r (GoesOn job tree old new v)
  goes_on of_run (Ok w) text mark faults = record {
    of_run = subst (IsOfRun job.limit) (sym mark) of_run;
    order = subst (IsNoLater job v.mark) (sym mark) order;
    text =
        subst (λ (t : Time). Appends old new (lines_between job tree v.mark t)) (sym mark)
        (subst (λ (p : PartOf). Appends old new (text_of tree p)) is text);
    faults =
        faults ∙ ap (λ (p : PartOf). v.faulted || has_fault p) is
        ∙ ap (λ (t : Time). v.faulted || has_fault (trace job v.mark t)) (sym mark);
  }
  goes_on of_run (Err e) text mark faults = tt

  pub falters : rank job.limit upto ≤ end_of job.limit job.horizon → (r : Result Written WriteError)
      → OnErr r (AppendsBeginning old new (text_of tree piece)) → OnErr r (Falters job tree old new v)
  falters within (Ok w) text = tt
  falters within (Err e) text = record {
    upto = upto;
    order = order;
    within = within;
    text = subst (λ (p : PartOf). AppendsBeginning old new (text_of tree p)) is text;
  }

-- ---- Where nothing more is written

or_false : (b : Bool) → b ≡ (b || false)
or_false true = refl
or_false false = refl

pub stays : (job : Job) (tree : Source) (known : Option (List ℕ)) (v : Written) → IsOfRun job.limit v.mark → GoesOn job tree known known v v
stays job tree known v of_run = record {
  of_run = of_run;
  order = omega arith;
  text = subst (λ (p : PartOf). Appends known known (text_of tree p)) (sym none) (Appends-nothing known);
  faults = or_false v.faulted ∙ ap (λ (p : PartOf). v.faulted || has_fault p) (sym none);
}
  where
    n : ℕ
    n = rank job.limit v.mark

    gone : n - n ≡ 0
    gone = omega arith

    none : trace job v.mark v.mark ≡ nothing
    none = ap (all_before (λ k. trace_at job.limit (whole job.flat) job.outside (n + k))) gone

-- where nothing was written yet
pub falters_at_once : (job : Job) (tree : Source) (known : Option (List ℕ)) (v : Written) (upto : Time) → IsNoLater job v.mark upto
    → rank job.limit upto ≤ end_of job.limit job.horizon → Falters job tree known known v
falters_at_once job tree known v upto order within = record {
  upto = upto;
  order = order;
  within = within;
  text = AppendsBeginning-nothing known (lines_between job tree v.mark upto);
}

-- before anything was written
pub not_begun : (job : Job) (tree : Source) (known : Option (List ℕ)) → IsBegun job tree known known
not_begun job tree known =
    record { upto = 0; within = omega arith; text = AppendsBeginning-nothing known (lines_before job tree 0) }

-- what was written to a mark is a beginning of the lines to the end
pub begun_to : (job : Job) (tree : Source) (old new : Option (List ℕ)) (w : Written) → IsWrittenTo job tree old new w
    → rank job.limit w.mark ≤ end_of job.limit job.horizon → IsBegun job tree old new
begun_to job tree old new w written within =
    record { upto = rank job.limit w.mark; within = within; text = AppendsBeginning-from (TakesFront-all written.text) }

-- what holds of an answer that is there
pub of_ok : {X E : Type 0} (P : X → Type 0) (r : Result X E) (x : X) → r ≡ Ok x → IfOk r P → P x
of_ok {X} {E} P r x is h = subst (λ (q : Result X E). IfOk q P) is h
