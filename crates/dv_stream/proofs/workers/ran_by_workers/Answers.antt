use Rattle.std.proofs.Common.{◌≡◌, ℕ, ◌+◌, ◌<◌, ◌≤◌, if◌then◌else◌, List, length, Some, sym, ap, subst, ◌∙◌, arith}
use Rattle.std.specs.List.{slice_get}
use Rattle.dv_time.specs.Time.{IsOfRun, end_of, rank}
use Rattle.dv_time.specs.declared.time.Time.{Time}
use Rattle.dv_conservative.specs.World.{Job}
use Rattle.dv_core.specs.Worlds.{end_time}
use Rattle.dv_devs.specs.Clocks.{least_rank}
use Rattle.dv_stream.specs.Clocks.{AreWithin}
use Rattle.dv_stream.specs.Endings.{why_for}
use Rattle.dv_stream.specs.declared.ran.RunEnded.TheVariants.{Cut, Whole}
use Rattle.dv_stream.proofs.Ended.{whole_if, whole_of, whole_or_cut}
use Rattle.dv_stream.proofs.ToldClocks.{told_all, told_count, told_least, told_some}
use Rattle.dv_stream.proofs.workers.ran_by_workers.Goals as goal

pub clocks_at-clocks-requires : goal.clocks_at-clocks-requires
clocks_at-clocks-requires g c =
    let count = c.in_ok-kept.ensures.count in
    let some = c.requires.some in
    omega (arith, some, count)

abbrev AllAt : List Time → Time → Type 0
AllAt ts end = (p : ℕ) (t : Time) → slice_get ts p ≡ Some t → t ≡ end

pub returns-clause-run : goal.returns-clause-run
returns-clause-run g c =
    let job = g.N.OfJob.job in
    let some = c.requires.some in
    let kept = c.in_ok-kept.ensures in
    let times = c.in_ok-kept.kept.items in
    let count = kept.count in
    let mark = c.args.written.mark in
    let told = c.clocks_at-clocks.result.items in
    let told_is = c.clocks_at-clocks.ensures in
    let whole = c.all_are-is_whole.result in
    let why = why_for c.args.halts.items in
    let told_as : c.ended_as-ended.result ≡ (if whole then Whole else Cut why)
    = c.ended_as-ended.ensures ∙ ap (λ hs. if whole then Whole else Cut (why_for hs)) c.deref-2.ensures.value in
    let end : Time = record { tick = c.horizon.result + 1; micro = 0 } in
    let is : end ≡ end_time job
    = ap (λ (n : ℕ). let t : Time = record { tick = n + 1; micro = 0 } in t)
    (c.horizon.ensures.is ∙ ap (λ (j : Job). j.horizon) (sym c.requires.job)) in
    record {
      some_clocks = subst (λ (ts : List Time). 0 < length ts) (sym told_is)
          (told_some job.limit times mark (omega (arith, some, count)) kept.of_run);
      count = ap length told_is ∙ told_count times mark ∙ count;
      least = told_least job.limit times mark (omega (arith, some, count)) kept.of_run ∙ ap (least_rank job.limit) (sym told_is);
      within =
          subst (AreWithin job.horizon job.limit) (sym told_is)
          (told_all (λ (t : Time). IsOfRun job.limit t × (rank job.limit t ≤ end_of job.limit job.horizon)) times mark
          (λ k d lt. (kept.of_run k d lt, kept.within k d lt)) (c.requires.of_run, c.requires.within));
      whole = (
        λ is_whole. subst (AllAt told) is (subst (λ (ts : List Time). AllAt ts end) c.deref.ensures.value
            (c.all_are-is_whole.ensures.0 (whole_of whole why (sym told_as ∙ is_whole)))),
        λ all. told_as ∙ whole_if whole why (c.all_are-is_whole.ensures.1
            (subst (λ (ts : List Time). AllAt ts end) (sym c.deref.ensures.value) (subst (AllAt told) (sym is) all))),
      );
      cut = λ cut. told_as ∙ whole_or_cut whole why (λ is_whole. cut (told_as ∙ is_whole));
    }
