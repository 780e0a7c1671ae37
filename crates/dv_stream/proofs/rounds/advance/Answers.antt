use Rattle.std.proofs.Common.{◌≤◌, List, map, sym, ap, subst, ◌∙◌, arith}
use Rattle.dv_time.specs.declared.time.Time.{Time}
use Rattle.dv_board.specs.Clocks.{IsLeast}
use Rattle.dv_conservative.specs.World.{Job, World}
use Rattle.dv_core.specs.Worlds.{EndsAs, IsTrueToModel, kept_by, shown}
use Rattle.dv_text.proofs.Taking.{OnErr-always}
use Rattle.dv_stream.specs.Rounds.{AreJoined}
use Rattle.dv_stream.proofs.ToldClocks.{least_is}
use Rattle.dv_stream.proofs.Joining.{joined_later}
use Rattle.dv_stream.proofs.Telling.{same_shown, still_true}
use Rattle.dv_stream.proofs.Worlds.{are_clocks_in, clocks_in}
use Rattle.dv_stream.proofs.Writing.{falters_at_once}
use Rattle.dv_stream.proofs.rounds.advance.Goals as goal

pub join_each-requires-clause-job : goal.join_each-requires-clause-job
join_each-requires-clause-job g c = c.requires.job ∙ ap g.J.PlannedJob.means (sym c.serial-ended.ensures.job)

pub join_each-requires-clause-true_to_model : goal.join_each-requires-clause-true_to_model
join_each-requires-clause-true_to_model g c =
    subst (λ (j : Job). IsTrueToModel j (kept_by g.P.LogicalProcess.state c.serial-ended.new.self))
    (ap g.J.PlannedJob.means c.serial-ended.ensures.job ∙ sym c.requires.job) c.serial-ended.ensures.true_to_model

pub join_each-requires-clause-joined : goal.join_each-requires-clause-joined
join_each-requires-clause-joined g c =
    let means = g.J.PlannedJob.means in
    let state = g.P.LogicalProcess.state in
    let handed = g.P.LogicalProcess.handed in
    let w = c.args.world.now in
    let v = c.serial-ended.new.self in
    let clocks = c.args.merger.now.backlog.clocks in
    subst (λ (j : Job). AreJoined j (map state v.processes.items) (map handed v.processes.items) clocks) (sym c.requires.job)
    (joined_later means state handed w v c.serial-ended.ensures.handed c.args.rounds c.serial-ended.result
    c.serial-ended.ensures.rounds clocks
    (subst (λ (j : Job). AreJoined j (map state w.processes.items) (map handed w.processes.items) clocks) c.requires.job
    c.requires.joined))

pub returns-in_err-join_each-clause-true_to_model : goal.returns-in_err-join_each-clause-true_to_model
returns-in_err-join_each-clause-true_to_model g c =
    let means = g.J.PlannedJob.means in
    let state = g.P.LogicalProcess.state in
    let v = c.serial-ended.new.self in
    subst (IsTrueToModel g.N.OfJob.job) (sym c.join_each.ensures.kept)
    (subst (λ (j : Job). IsTrueToModel j (kept_by state v)) (ap means c.serial-ended.ensures.job ∙ sym c.requires.job)
    c.serial-ended.ensures.true_to_model)

pub returns-in_err-join_each-clause-err : goal.returns-in_err-join_each-clause-err
returns-in_err-join_each-clause-err g c =
    OnErr-always _ (falters_at_once g.N.OfJob.job c.args.merger.now.lines (g.W.Write.contents c.args.writer.now) c.args.before
    c.args.before.mark (omega arith) c.requires.within)

pub write_all-requires-clause-job : goal.write_all-requires-clause-job
write_all-requires-clause-job g c =
    c.requires.job
    ∙ ap g.J.PlannedJob.means (sym (c.job.ensures ∙ c.in_ok-join_each.ensures.job ∙ c.serial-ended.ensures.job))

pub returns-in_err-written-clause-true_to_model : goal.returns-in_err-written-clause-true_to_model
returns-in_err-written-clause-true_to_model g c =
    let means = g.J.PlannedJob.means in
    let state = g.P.LogicalProcess.state in
    let v = c.serial-ended.new.self in
    subst (IsTrueToModel g.N.OfJob.job) (sym c.in_ok-join_each.ensures.kept)
    (subst (λ (j : Job). IsTrueToModel j (kept_by state v)) (ap means c.serial-ended.ensures.job ∙ sym c.requires.job)
    c.serial-ended.ensures.true_to_model)

pub returns-clause-true_to_model : goal.returns-clause-true_to_model
returns-clause-true_to_model g c =
    let means = g.J.PlannedJob.means in
    let state = g.P.LogicalProcess.state in
    let v = c.serial-ended.new.self in
    subst (IsTrueToModel g.N.OfJob.job) (sym c.in_ok-join_each.ensures.kept)
    (subst (λ (j : Job). IsTrueToModel j (kept_by state v)) (ap means c.serial-ended.ensures.job ∙ sym c.requires.job)
    c.serial-ended.ensures.true_to_model)

pub returns-clause-rounds : goal.returns-clause-rounds
returns-clause-rounds g c =
    let means = g.J.PlannedJob.means in
    let state = g.P.LogicalProcess.state in
    let w = c.args.world.now in
    let v = c.serial-ended.new.self in
    let u = c.join_each.new.world in
    subst (λ (x : World). EndsAs g.N.OfJob.job c.args.rounds c.serial-ended.result (shown means state w) x)
    (sym (same_shown means state v u c.in_ok-join_each.ensures.job c.in_ok-join_each.ensures.kept))
    (subst (λ (j : Job). EndsAs j c.args.rounds c.serial-ended.result (shown means state w) (shown means state v)) (sym c.requires.job)
    c.serial-ended.ensures.rounds)

pub returns-clause-joined : goal.returns-clause-joined
returns-clause-joined g c =
    let state = g.P.LogicalProcess.state in
    let handed = g.P.LogicalProcess.handed in
    let u = c.join_each.new.world in
    subst (λ (ts : List Time). AreJoined g.N.OfJob.job (map state u.processes.items) (map handed u.processes.items) ts)
    (sym c.in_ok-written.ensures.clocks) c.in_ok-join_each.ensures.joined

pub returns-clause-least : goal.returns-clause-least
returns-clause-least g c =
    let means = g.J.PlannedJob.means in
    let state = g.P.LogicalProcess.state in
    let job = g.N.OfJob.job in
    let v = c.serial-ended.new.self in
    let u = c.join_each.new.world in
    let mark = c.in_ok-written.written.mark in
    let job_is = c.in_ok-join_each.ensures.job in
    let true_to = still_true means state v u job_is c.in_ok-join_each.ensures.kept c.serial-ended.ensures.true_to_model in
    let meant = ap means (job_is ∙ c.serial-ended.ensures.job) ∙ sym c.requires.job in
    let clocks = are_clocks_in means state u true_to in
    let same = c.in_ok-written.ensures.clocks ∙ c.in_ok-join_each.ensures.clocks in
    least_is job.limit mark (clocks_in means state u) c.in_ok-written.ensures.ok.of_run
    (λ p t at. let h = clocks.within p t at in subst (λ (j : Job). t.micro ≤ j.limit) meant h.0)
    (subst (IsLeast mark) same c.in_ok-written.ensures.least)
