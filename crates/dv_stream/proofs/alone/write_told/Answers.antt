use Rattle.std.proofs.Common.{◌≡◌, ◌∷◌, [], List, map, sym, ap, subst, ◌∙◌}
use Rattle.std.proofs.Math.ListN.{set}
use Rattle.dv_time.specs.Time.{IsOfRun, rank}
use Rattle.dv_record.specs.Told.{Handed}
use Rattle.dv_plan.specs.Clocks.{least_time}
use Rattle.dv_text.proofs.Taking.{AppendsBeginning-short, OnErr-always}
use Rattle.dv_stream.specs.Alone.{Breaks, by_tree}
use Rattle.dv_written.specs.Faults.{has_fault}
use Rattle.dv_stream.specs.Written.{lines_before}
use Rattle.dv_stream.proofs.Telling.{fault_told, its_handed, its_of_run, its_within, lines_handed, lines_told, only_one, same_clocks}
use Rattle.dv_stream.proofs.Telling.{same_shown, still_true, told_part}
use Rattle.dv_board.proofs.Wholes.{trace_of_job}
use Rattle.dv_stream.proofs.alone.write_told.Goals as goal

pub returns-in_err-hand_over-clause-err : goal.returns-in_err-hand_over-clause-err
returns-in_err-hand_over-clause-err g c =
    let means = g.J.PlannedJob.means in
    let state = g.P.LogicalProcess.state in
    let w = c.args.world.now in
    let job = means w.job in
    let tree = c.args.tree.now in
    let x = c.process-process.result.now in
    let at = c.process-process.ensures.process in
    let true = c.requires.true_to_model in
    let text = lines_before job tree (rank job.limit c.args.before.mark) in
    let n = rank job.limit (state x).position.clock in
    let r = c.record-told.result.now in
    let part = c.record-told.ensures.told ∙ told_part means state w x at true c.requires.merges c.requires.alone in
    let h = c.record-told.ensures.handed ∙ its_handed means state w x at true g.P.LogicalProcess.handed (by_tree tree text)
    c.requires.handed in
    let broken : Breaks job tree (g.W.Write.contents c.args.writer.now) (g.W.Write.contents c.hand_over.new.writer) c.args.before
    = record {
      upto = n;
      within = its_within means state w x at true;
      more = c.bytes.result.now;
      lines = lines_told c.a_trace_is_its_instants.ensures.lines job tree _ text c.bytes.result.now
          (g.R.Record.told r) n h c.bytes.ensures part;
      text = AppendsBeginning-short c.in_err-hand_over.ensures.err;
    } in
    OnErr-always _ broken

pub returns-clause-shown : goal.returns-clause-shown
returns-clause-shown g c =
    same_shown g.J.PlannedJob.means g.P.LogicalProcess.state c.args.world.now c.let_go.new.self
    c.let_go.ensures.job c.let_go.ensures.kept

pub returns-clause-true_to_model : goal.returns-clause-true_to_model
returns-clause-true_to_model g c =
    still_true g.J.PlannedJob.means g.P.LogicalProcess.state c.args.world.now c.let_go.new.self
    c.let_go.ensures.job c.let_go.ensures.kept
    c.requires.true_to_model

pub returns-clause-ok : goal.returns-clause-ok
returns-clause-ok g c =
    let means = g.J.PlannedJob.means in
    let state = g.P.LogicalProcess.state in
    let w = c.args.world.now in
    let job = means w.job in
    let tree = c.args.tree.now in
    let x = c.process-process.result.now in
    let at = c.process-process.ensures.process in
    let true = c.requires.true_to_model in
    let text = lines_before job tree (rank job.limit c.args.before.mark) in
    let mark = c.clock-mark.result in
    let n = rank job.limit (state x).position.clock in
    let same : n ≡ rank job.limit mark = ap (rank job.limit) (sym c.clock-mark.ensures) in
    let r = c.record-told.result.now in
    let part = c.record-told.ensures.told ∙ told_part means state w x at true c.requires.merges c.requires.alone in
    let h = c.record-told.ensures.handed ∙ its_handed means state w x at true g.P.LogicalProcess.handed (by_tree tree text)
    c.requires.handed in
    record {
      of_run = subst (IsOfRun job.limit) (sym c.clock-mark.ensures) (its_of_run means state w x at true);
      more = c.bytes.result.now;
      lines =
          lines_told c.a_trace_is_its_instants.ensures.lines job tree _ text c.bytes.result.now (g.R.Record.told r) n h c.bytes.ensures part
          ∙ ap (lines_before job tree) same;
      text = c.in_ok-hand_over.ensures.ok;
      faults =
          c.has_fault-faulted.ensures
          ∙ fault_told (g.R.Record.told r)
          ∙ ap has_fault part
          ∙ ap (λ m. has_fault (trace_of_job job m)) same;
    }

pub returns-clause-handed : goal.returns-clause-handed
returns-clause-handed g c =
    let means = g.J.PlannedJob.means in
    let state = g.P.LogicalProcess.state in
    let w = c.args.world.now in
    let job = means w.job in
    let tree = c.args.tree.now in
    let x = c.process-process.result.now in
    let at = c.process-process.ensures.process in
    let true = c.requires.true_to_model in
    let text = lines_before job tree (rank job.limit c.args.before.mark) in
    let n = rank job.limit (state x).position.clock in
    let h = g.P.LogicalProcess.handed x in
    let part = told_part means state w x at true c.requires.merges c.requires.alone in
    let now : Handed = record h { text = h.text_of (state x).part } in
    c.let_go.ensures.handed x at
    ∙ ap (λ (hs : List Handed). set hs 0 now) c.requires.handed
    ∙ ap (λ (k : Handed). k ∷ [])
    (lines_handed c.a_trace_is_its_instants.ensures.lines job tree h text (state x).part n
    (its_handed means state w x at true g.P.LogicalProcess.handed (by_tree tree text) c.requires.handed) part
    ∙ ap (λ m. by_tree tree (lines_before job tree m)) (ap (rank job.limit) (sym c.clock-mark.ensures)))

pub returns-clause-least : goal.returns-clause-least
returns-clause-least g c =
    let means = g.J.PlannedJob.means in
    let state = g.P.LogicalProcess.state in
    let w = c.args.world.now in
    let x = c.process-process.result.now in
    let at = c.process-process.ensures.process in
    let only = only_one means state w x at c.requires.true_to_model c.requires.alone in
    c.clock-mark.ensures
    ∙ sym (ap (λ ps. least_time (map (λ y. (state y).position.clock) ps)) only)
    ∙ sym (ap least_time (same_clocks means state w c.let_go.new.self c.let_go.ensures.job c.let_go.ensures.kept))
