use Rattle.std.proofs.Common.{◌≡◌, sym, subst}
use Rattle.std.specs.List.{All}
use Rattle.dv_local.specs.States.{settled_by, view_by}
use Rattle.dv_record.specs.Told.{no_text}
use Rattle.dv_plan.proofs.Beginning.{made_for}
use Rattle.dv_plan.proofs.worlds.world_of.Goals as goal

pub new-requires : goal.new-requires
new-requires g c =
    made_for (view_by g.A.Atomic.behaviour g.R.Record.told) (settled_by g.A.Atomic.behaviour g.R.Record.settled) c.args.job c.args.plan
    c.requires.run
    c.in_ok-processes.processes.items c.in_ok-processes.ensures.begun

pub returns-clause-handed : goal.returns-clause-handed
returns-clause-handed g c =
    subst (λ ps. All (λ p. g.R.Record.handed p.local.record ≡ no_text) ps.items) (sym c.in_ok-world.ensures.processes)
    c.in_ok-processes.ensures.handed
