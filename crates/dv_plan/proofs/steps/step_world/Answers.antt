use Rattle.std.proofs.Common.{◌≡◌, refl, sym, subst}
use Rattle.dv_conservative.specs.World.{World, new_world}
use Rattle.dv_core.specs.Worlds.{IsRunWithProgress, kept_by, shown, with_replies}
use Rattle.dv_plan.specs.Runs.{HasStepped}
use Rattle.dv_plan.specs.declared.ran.Stepped.{Stepped}
use Rattle.dv_plan.proofs.Running.{of_world}
use Rattle.dv_plan.proofs.steps.step_world.Goals as goal

pub returns : goal.returns
returns g c = λ capacity fresh.
    let means = g.J.PlannedJob.means in
    let state = g.P.LogicalProcess.state in
    let before = c.args.world in
    let after = c.run.new.self in
    let steps = c.args.steps.now in
    let replied = with_replies steps c.in_ok-replies.replies.items in
    let at_new : IsRunWithProgress (means before.job) replied (new_world capacity) (shown means state after) =
    subst (λ (w : World). IsRunWithProgress (means before.job) replied w (shown means state after)) fresh c.in_ok-replies.ensures.run in
    let run = subst (λ j. IsRunWithProgress (means j) replied (new_world capacity) (shown means state after)) (sym c.run.ensures.job)
    at_new in
    let given : Stepped = record {
      parts = c.in_ok-parts.parts;
      clocks = c.in_ok-parts.clocks;
      replies = c.in_ok-replies.replies;
    } in
    subst (λ j. HasStepped (means j) capacity steps given) c.run.ensures.job (record {
      world = shown means state after;
      run = run;
      each = c.in_ok-replies.ensures.each;
      handed =
          of_world state (means after.job) (kept_by state after) after.processes.items refl c.run.ensures.true_to_model _ _
          c.in_ok-parts.ensures.parts c.in_ok-parts.ensures.clocks;
    })
