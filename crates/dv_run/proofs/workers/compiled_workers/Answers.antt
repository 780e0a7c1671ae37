use Rattle.dv_syntax.specs.Trees.{file_of}
use Rattle.dv_text.proofs.Taking.{OnErr-always}
use Rattle.dv_stream.proofs.Ended.{never_for_rounds}
use Rattle.dv_run.proofs.Traces.{is_cut_short, is_printed, nothing_printed}
use Rattle.dv_run.proofs.workers.compiled_workers.Goals as goal

pub lone_components-requires : goal.lone_components-requires
lone_components-requires g c = record {
  compilable =
      c.accepted_files_are_compilable.ensures (file_of c.args.job.now.tree.now.file) c.requires.ready.writable
      c.requires.ready.accepted;
}

pub work_components-requires-clause-components : goal.work_components-requires-clause-components
work_components-requires-clause-components g c κs _ = c.in_ok-components.ensures

pub returns-in_err-components-clause-err : goal.returns-in_err-components-clause-err
returns-in_err-components-clause-err g c =
    let j = c.args.job.now in
    OnErr-always _ (nothing_printed j.tree.now.names (file_of j.tree.now.file) j.inputs.now j.horizon j.limit
    (g.W.Write.contents c.args.writer.now))

pub returns-in_err-works-clause-err : goal.returns-in_err-works-clause-err
returns-in_err-works-clause-err g c =
    let j = c.args.job.now in
    OnErr-always _ (nothing_printed j.tree.now.names (file_of j.tree.now.file) j.inputs.now j.horizon j.limit
    (g.W.Write.contents c.args.writer.now))

pub returns-in_err-worked-clause-err : goal.returns-in_err-worked-clause-err
returns-in_err-worked-clause-err g c =
    let j = c.args.job.now in
    OnErr-always _ (is_cut_short j c.requires.ready.writable c.requires.ready.accepted c.traces_of.ensures.laws
    {old = g.W.Write.contents c.args.writer.now} {new = g.W.Write.contents c.work_components.new.writer} c.in_err-worked.ensures.err)

pub returns-clause-printed : goal.returns-clause-printed
returns-clause-printed g c =
    let j = c.args.job.now in
    let r = c.in_ok-worked.worked.ran in
    let is = c.in_ok-worked.ensures in
    is_printed j c.requires.ready.writable c.requires.ready.accepted c.traces_of.ensures.laws {old = g.W.Write.contents c.args.writer.now}
    {new = g.W.Write.contents c.work_components.new.writer} r is.written is.run.least is.run.some_clocks is.run.count is.run.within
    is.run.whole

pub returns-clause-ended : goal.returns-clause-ended
returns-clause-ended g c = never_for_rounds c.in_ok-worked.worked.ran.ended c.in_ok-worked.worked.halts.items c.in_ok-worked.ensures.run.cut

pub returns-clause-halts : goal.returns-clause-halts
returns-clause-halts g c = c.in_ok-worked.ensures.run.cut
