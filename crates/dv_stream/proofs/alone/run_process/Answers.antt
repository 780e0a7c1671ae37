use Rattle.std.proofs.Common.{◌<◌, ◌≤◌, sym, ap, subst, ◌∙◌, arith}
use Rattle.dv_time.specs.Time.{end_of, rank}
use Rattle.dv_conservative.specs.World.{World, new_world}
use Rattle.dv_core.specs.Worlds.{EndsAs, shown}
use Rattle.dv_plan.specs.Clocks.{least_time}
use Rattle.dv_text.proofs.Taking.{OnErr-always}
use Rattle.dv_stream.specs.Endings.{HasRunInRounds}
use Rattle.dv_stream.specs.Written.{IsWrittenTo}
use Rattle.dv_stream.proofs.Worlds.{are_clocks_in, clocks_in, least_within}
use Rattle.dv_stream.proofs.Writing.{begun_to}
use Rattle.dv_stream.proofs.alone.run_process.Goals as goal

pub returns-in_err-ran-clause-err : goal.returns-in_err-ran-clause-err
returns-in_err-ran-clause-err g c =
    let means = g.J.PlannedJob.means in
    let state = g.P.LogicalProcess.state in
    let contents = g.W.Write.contents in
    let job = means c.args.world.now.job in
    let after = c.stream_process.new.world in
    let alone = c.requires.alone in
    let some : 0 < (means after.job).processes
    = subst (λ j. 0 < (means j).processes) (sym c.in_ok-ended.ensures.job) (omega (arith, alone)) in
    let w = c.in_ok-ended.written in
    let within : rank job.limit w.mark ≤ end_of job.limit job.horizon
    = subst (λ j. rank (means j).limit w.mark ≤ end_of (means j).limit (means j).horizon) c.in_ok-ended.ensures.job
    (subst (λ t. rank (means after.job).limit t ≤ end_of (means after.job).limit (means after.job).horizon)
    (sym c.in_ok-ended.ensures.least)
    (least_within (means after.job) (shown means state after) (clocks_in means state after)
    (are_clocks_in means state after c.in_ok-ended.ensures.true_to_model) some)) in
    OnErr-always _ (begun_to job c.args.tree.now (contents c.args.writer.now) (contents c.stream_process.new.writer) w
    c.in_ok-ended.ensures.written within)

pub returns-clause-run : goal.returns-clause-run
returns-clause-run g c = λ capacity fresh.
    let means = g.J.PlannedJob.means in
    let state = g.P.LogicalProcess.state in
    let before = c.args.world.now in
    let after = c.stream_process.new.world in
    let rounds = c.args.rounds in
    let ended = c.in_ok-ended.ended in
    let at_new : EndsAs (means before.job) rounds ended (new_world capacity) (shown means state after) =
    subst (λ (w : World). EndsAs (means before.job) rounds ended w (shown means state after)) fresh c.in_ok-ended.ensures.rounds in
    let ends = subst (λ j. EndsAs (means j) rounds ended (new_world capacity) (shown means state after))
    (sym c.in_ok-ended.ensures.job) at_new in
    subst (λ j. HasRunInRounds (means j) capacity rounds c.in_ok-ran.ran) c.in_ok-ended.ensures.job
    (c.in_ok-ran.ensures.run capacity rounds ends)

pub returns-clause-written : goal.returns-clause-written
returns-clause-written g c =
    let contents = g.W.Write.contents in
    subst (IsWrittenTo (g.J.PlannedJob.means c.args.world.now.job) c.args.tree.now (contents c.args.writer.now)
    (contents c.stream_process.new.writer)) (sym c.in_ok-ran.ensures.written) c.in_ok-ended.ensures.written

pub returns-clause-least : goal.returns-clause-least
returns-clause-least g c =
    ap (λ w. w.mark) c.in_ok-ran.ensures.written ∙ c.in_ok-ended.ensures.least ∙ sym (ap least_time c.in_ok-ran.ensures.clocks)
