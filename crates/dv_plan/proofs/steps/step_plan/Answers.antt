use Rattle.std.proofs.Common.{IfOk, subst}
use Rattle.dv_plan.specs.Runs.{HasStepped}
use Rattle.dv_plan.proofs.steps.step_plan.Goals as goal

pub returns : goal.returns
returns g c =
    subst (λ j. IfOk c.step_world.result (HasStepped (g.J.PlannedJob.means j) c.args.capacity c.args.steps.now)) c.in_ok-world.ensures.job
    (c.step_world.ensures c.args.capacity c.in_ok-world.ensures.fresh)
