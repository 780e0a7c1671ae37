use Rattle.std.proofs.Common.{◌≡◌, map, refl, sym, ap, subst, ◌∙◌}
use Rattle.dv_conservative.specs.World.{new_world}
use Rattle.dv_core.specs.Worlds.{EndsAs, IsWhole, kept_by, shown}
use Rattle.dv_core.specs.declared.step.Ended.{Ended}
use Rattle.dv_core.specs.declared.step.Ended.TheVariants.{Whole}
use Rattle.dv_plan.specs.declared.ran.Committed.{Committed}
use Rattle.dv_plan.proofs.Running.{clocks_of_world}
use Rattle.dv_stream.proofs.Ended.{ends_as, ends_whole, whole_clocks}
use Rattle.dv_stream.proofs.ran.ran_in_world.Goals as goal

pub returns-clause-run : goal.returns-clause-run
returns-clause-run g c = λ capacity rounds ends.
    let means = g.J.PlannedJob.means in
    let state = g.P.LogicalProcess.state in
    let world = c.args.world.now in
    let job = means world.job in
    let meant = shown means state world in
    let times = c.in_ok-clocks.clocks.items in
    let given : Committed = record { clocks = c.in_ok-clocks.clocks; ended = c.args.ended } in
    let handed =
    clocks_of_world state job (kept_by state world) world.processes.items refl c.requires times
    (c.in_ok-clocks.ensures ∙ ap (λ ps. map (λ x. (state x).position.clock) ps) c.processes.ensures) in
    let of_rounds : c.args.ended ≡ Whole → IsWhole job meant =
    λ e. let h : EndsAs job rounds Whole (new_world capacity) meant
    = subst (λ (x : Ended). EndsAs job rounds x (new_world capacity) meant) e ends in h.3 in
    let at_end = whole_clocks job meant times handed in
    let told_so = ends_whole c.whole.result c.args.ended (IsWhole job meant) c.whole.ensures.whole of_rounds in
    let is = c.ended_by_rounds-ended.ensures in
    record {
      committed = given;
      run = record { world = meant; ends = ends; handed = handed };
      clocks = refl;
      whole = (λ whole. at_end.0 (told_so.0 (sym is ∙ whole)), λ all. is ∙ told_so.1 (at_end.1 all));
      ended = λ cut. is ∙ ends_as c.whole.result c.args.ended (λ whole. cut (is ∙ whole));
    }

pub returns-clause-clocks : goal.returns-clause-clocks
returns-clause-clocks g c =
    let state = g.P.LogicalProcess.state in
    c.in_ok-clocks.ensures ∙ ap (λ ps. map (λ x. (state x).position.clock) ps) c.processes.ensures
