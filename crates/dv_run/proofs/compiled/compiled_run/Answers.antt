use Rattle.std.proofs.Common.{◌≡◌, ◌<◌, length, sym, ap, subst, ◌∙◌}
use Rattle.dv_devs.specs.Clocks.{least_rank}
use Rattle.dv_time.specs.Time.{rank}
use Rattle.dv_partition.specs.Groups.{owner_of}
use Rattle.dv_syntax.specs.Trees.{file_of}
use Rattle.dv_text.proofs.Taking.{OnErr-always}
use Rattle.dv_plan.specs.Clocks.{least_time}
use Rattle.dv_plan.proofs.LeastClock.{least_time_rank}
use Rattle.dv_stream.specs.Clocks.{AreWithin}
use Rattle.dv_run.proofs.Traces.{each_clock, is_cut_short, is_printed, is_run, nothing_printed, ran_of_run}
use Rattle.dv_run.proofs.Traces.{ran_within, some_clocks}
use Rattle.dv_run.proofs.compiled.compiled_run.Goals as goal

pub components_of-requires : goal.components_of-requires
components_of-requires g c = record {
  compilable =
      c.accepted_files_are_compilable.ensures (file_of c.args.job.now.tree.now.file) c.requires.writable
      c.requires.accepted;
}

pub run_components-requires-clause-components : goal.run_components-requires-clause-components
run_components-requires-clause-components g c = record {
  members = c.in_ok-components.ensures.members;
  rise = c.in_ok-components.ensures.rise;
  among = c.in_ok-components.ensures.among;
  responses = c.in_ok-components.ensures.responses;
  short = c.in_ok-components.ensures.short;
}

pub returns-in_err-components-clause-err : goal.returns-in_err-components-clause-err
returns-in_err-components-clause-err g c =
    let j = c.args.job.now in
    OnErr-always _ (nothing_printed j.tree.now.names (file_of j.tree.now.file) j.inputs.now j.horizon j.limit
    (g.W.Write.contents c.args.writer.now))

pub returns-in_err-ran-clause-err : goal.returns-in_err-ran-clause-err
returns-in_err-ran-clause-err g c =
    let j = c.args.job.now in
    OnErr-always _ (is_cut_short j c.requires.writable c.requires.accepted c.traces_of.ensures.laws
    {old = g.W.Write.contents c.args.writer.now} {new = g.W.Write.contents c.run_components.new.writer} c.in_err-ran.ensures.err)

pub returns-clause-run : goal.returns-clause-run
returns-clause-run g c =
    let j = c.args.job.now in
    let f = file_of j.tree.now.file in
    let capacity = c.args.bounds.capacity in
    let rounds = c.args.bounds.rounds in
    let r = c.in_ok-ran.ran in
    let is = c.in_ok-ran.ensures in
    let so = is.run in
    let done = so.committed in
    let some = some_clocks j capacity rounds done so.run is.some in
    let mark : rank j.limit r.written.mark ≡ least_rank j.limit r.clocks.items =
    ap (rank j.limit) (is.least ∙ ap (λ ts. least_time ts.items) so.clocks)
    ∙ least_time_rank j.limit done.clocks.items some (ran_of_run j capacity rounds done so.run)
    ∙ ap (λ ts. least_rank j.limit ts.items) (sym so.clocks) in
    is_run j capacity rounds done so.run {old = g.W.Write.contents c.args.writer.now}
    {new = g.W.Write.contents c.run_components.new.writer} r so.clocks so.ended
    (is_printed j c.requires.writable c.requires.accepted c.traces_of.ensures.laws r is.written mark
    (subst (λ ts. 0 < length ts.items) (sym so.clocks) some) (each_clock j capacity rounds done so.run r so.clocks)
    (subst (λ ts. AreWithin j.horizon j.limit ts.items) (sym so.clocks) (ran_within j capacity rounds done so.run)) so.whole)
    is.enough
    (λ ended w. c.runs_by_programs_are_runs_by_rules.ensures.rounds f j.inputs.now j.limit j.horizon
    j.groups.now.processes capacity rounds (owner_of j.groups.now) ended w c.requires.writable c.requires.accepted)
