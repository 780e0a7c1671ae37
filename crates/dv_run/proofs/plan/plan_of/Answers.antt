use Rattle.std.proofs.Common.{◌<◌, length, refl, sym, ap, ◌∙◌, arith, subst, ℕ}
use Rattle.std.proofs.lemmas.List.{length-map}
use Rattle.std.specs.List.{AllByRecursion}
use Rattle.dv_coded.specs.declared.lent.Lent.{Lent}
use Rattle.dv_local.specs.declared.share.Share.{Share}
use Rattle.dv_syntax.specs.Trees.{file_of}
use Rattle.dv_tree.specs.Instances.{instances}
use Rattle.law_sound.specs.Jobs.{AllInputNumbers, fits_number}
use Rattle.dv_partition.specs.Groups.{owner_of}
use Rattle.dv_run.specs.Texts.{text_job}
use Rattle.dv_plan.proofs.Few.{few_channels}
use Rattle.dv_proc.specs.Channels.{meant_channel}
use Rattle.dv_run.proofs.Shares.{all_can_begin}
use Rattle.dv_run.proofs.plan.plan_of.Goals as goal

pub returns-clause-run : goal.returns-clause-run
returns-clause-run c =
    let j = c.args.job.now in
    let f = file_of j.tree.now.file in
    let job = text_job j in
    let laws = c.processes_of_texts_start_sound.ensures in
    let plan = c.in_ok-plan.plan in
    let planned = c.in_ok-plan.ensures in
    let count = c.processes-processes.ensures.exact in
    let owned : (k : ℕ) → owner_of j.groups.now k < j.groups.now.processes =
    λ k. subst (λ (n : ℕ). owner_of j.groups.now k < n) count (c.processes-processes.ensures.owned k) in
    let few = c.processes-processes.ensures.few in
    let shares = planned.count in
    let links = sym (length-map plan.links.items meant_channel) ∙ ap length planned.links in
    let channels = few_channels job.owner job.flat.links job.processes (omega (arith, count, few)) in
    record {
      planned = planned;
      begin =
          all_can_begin f j.inputs.now j.horizon j.limit j.groups.now.processes (owner_of j.groups.now)
          c.requires.ready.writable c.requires.ready.accepted c.requires.ready.numbers owned laws.sound laws.begun laws.apart_in
          laws.apart_out plan planned (subst (AllByRecursion (λ (s : Share Lent). AllInputNumbers s.inputs)) c.deref.ensures.value
          c.shares_have_numbers.ensures);
      sound = (
        fits_number (instances f),
        c.texts_are_jobs.ensures f j.inputs.now j.limit j.horizon j.groups.now.processes (owner_of j.groups.now)
            c.requires.ready.writable c.requires.ready.accepted c.requires.ready.numbers owned,
      );
      ends = λ l d e. c.channels_are_where_links_cross.ensures.ends job l d refl e;
      few = (omega (arith, shares, count, few), omega (arith, links, channels));
    }
