use Rattle.std.proofs.Common.{◌∷◌, [], ◌++◌, sym, ap, subst, ◌∙◌}
use Rattle.dv_core.specs.Worlds.{AreMadeFor}
use Rattle.dv_plan.proofs.alone.world_of_one.Goals as goal

pub new-requires : goal.new-requires
new-requires g c =
    subst (AreMadeFor g.J.PlannedJob.means g.P.LogicalProcess.state g.P.LogicalProcess.valid c.args.job c.args.links.items)
    (sym (c.in_ok-push.ensures.items ∙ ap (λ ps. ps ++ c.args.process ∷ []) c.new-processes.ensures.items)) c.requires
