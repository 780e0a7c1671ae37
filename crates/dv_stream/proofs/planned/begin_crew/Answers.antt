use Rattle.std.proofs.Common.{◌≡◌, refl, ap}
use Rattle.std.proofs.lemmas.List.Elements.{All-weaker}
use Rattle.dv_bag.specs.Part.{nothing}
use Rattle.dv_conservative.specs.World.{Job}
use Rattle.dv_core.specs.Conservative.{IsConservative, state_by}
use Rattle.dv_local.specs.States.{settled_by, view_by}
use Rattle.dv_record.specs.Told.{Handed, no_text}
use Rattle.dv_plan.proofs.Beginning.{made_for}
use Rattle.dv_stream.proofs.Made.{made_alike}
use Rattle.dv_stream.proofs.planned.begin_crew.Goals as goal

pub returns : goal.returns
returns g c =
    let means = g.J.PlannedJob.means in
    let job = means c.args.job.now in
    let view = view_by g.A.Atomic.behaviour g.K.Record.told in
    let settled = settled_by g.A.Atomic.behaviour g.K.Record.settled in
    let processes = c.in_ok-processes.processes.items in
    record {
      made =
          made_alike means (λ (j : Job). j) (state_by view) (IsConservative view settled) c.args.job.now job c.args.plan.links.items
          processes refl (made_for view settled c.args.job.now c.args.plan c.requires.run processes c.in_ok-processes.ensures.begun);
      kept =
          All-weaker (λ p. g.K.Record.handed p.local.record ≡ no_text) (λ p. (g.K.Record.handed p.local.record).past ≡ nothing)
          (λ p same. ap (λ (h : Handed). h.past) same) processes c.in_ok-processes.ensures.handed;
      workers = c.requires.workers;
      room = c.requires.capacity;
    }
