use Rattle.std.proofs.Common.{◌<◌, List, length, ap, subst, refl, ◌∙◌, arith}
use Rattle.dv_conservative.specs.Rounds.{moves_from}
use Rattle.dv_conservative.specs.World.{Step}
use Rattle.dv_core.specs.Worlds.{shown}
use Rattle.dv_core.specs.Standing.{Continues}
use Rattle.dv_core.specs.declared.step.Step.TheVariants as step
use Rattle.dv_core.proofs.Driving.{one_more, cut_here, still_same, moves_next}
use Rattle.dv_core.proofs.state.WorldState.moves.Goals as goal

pub returns-in-Memory-clause-cut : goal.returns-in-Memory-clause-cut
returns-in-Memory-clause-cut g c =
    let inv = c.loop-link.invariant in
    let job = g.J.PlannedJob.means c.args.self.now.job in
    let start = shown g.J.PlannedJob.means g.P.LogicalProcess.state c.args.self.now in
    let before = shown g.J.PlannedJob.means g.P.LogicalProcess.state c.loop-link.self in
    let all = moves_from 0 job.channels in
    let lt : c.loop-link.link < length job.channels = omega (arith, inv.count) in
    let was = subst (λ (ss : List Step). Continues job all ss start before) (moves_next c.loop-link.link job.channels lt) inv.continues in
    λ _. cut_here c.loop-link.self c.put.new.self (step.Put c.loop-link.link) _ c.in-Memory.ensures.stepped.answered
    job (ap g.J.PlannedJob.means inv.same) all _ start was refl

pub returns-in-Memory-take : goal.returns-in-Memory-take
returns-in-Memory-take g c =
    let inv = c.loop-link.invariant in
    let job = g.J.PlannedJob.means c.args.self.now.job in
    let start = shown g.J.PlannedJob.means g.P.LogicalProcess.state c.args.self.now in
    let before = shown g.J.PlannedJob.means g.P.LogicalProcess.state c.loop-link.self in
    let all = moves_from 0 job.channels in
    let lt : c.loop-link.link < length job.channels = omega (arith, inv.count) in
    let was = subst (λ (ss : List Step). Continues job all ss start before) (moves_next c.loop-link.link job.channels lt) inv.continues in
    let later = one_more c.loop-link.self c.put.new.self (step.Put c.loop-link.link) c.put.result c.put.ensures.stepped.answered
    job (ap g.J.PlannedJob.means inv.same) all _ start was c.in_default.not-Memory in
    let same = still_same c.loop-link.self c.put.new.self (step.Put c.loop-link.link) c.put.result c.put.ensures.stepped.answered
    job (ap g.J.PlannedJob.means inv.same) in
    record {
      done = λ h. absurd (cc);
      cut = λ _. cut_here c.put.new.self c.take.new.self (step.Take c.loop-link.link) _ c.in-Memory-take.ensures.stepped.answered
          job same all _ start later refl;
      job = c.take.ensures.stepped.answered.job ∙ c.put.ensures.stepped.answered.job ∙ inv.same;
      stands = c.take.ensures.stepped.stands;
      handed = c.take.ensures.handed ∙ c.put.ensures.handed ∙ inv.handed;
    }

pub loop-link-preserved : goal.loop-link-preserved
loop-link-preserved g c =
    let inv = c.loop-link.invariant in
    let job = g.J.PlannedJob.means c.args.self.now.job in
    let start = shown g.J.PlannedJob.means g.P.LogicalProcess.state c.args.self.now in
    let before = shown g.J.PlannedJob.means g.P.LogicalProcess.state c.loop-link.self in
    let all = moves_from 0 job.channels in
    let lt : c.loop-link.link < length job.channels = omega (arith, inv.count) in
    let was = subst (λ (ss : List Step). Continues job all ss start before) (moves_next c.loop-link.link job.channels lt) inv.continues in
    let later = one_more c.loop-link.self c.put.new.self (step.Put c.loop-link.link) c.put.result c.put.ensures.stepped.answered
    job (ap g.J.PlannedJob.means inv.same) all _ start was c.in_default.not-Memory in
    let same = still_same c.loop-link.self c.put.new.self (step.Put c.loop-link.link) c.put.result c.put.ensures.stepped.answered
    job (ap g.J.PlannedJob.means inv.same) in
    record {
      stands = c.take.ensures.stepped.stands;
      same = c.take.ensures.stepped.answered.job ∙ c.put.ensures.stepped.answered.job ∙ inv.same;
      handed = c.take.ensures.handed ∙ c.put.ensures.handed ∙ inv.handed;
      count = inv.count;
      continues = one_more c.put.new.self c.take.new.self (step.Take c.loop-link.link) c.take.result c.take.ensures.stepped.answered
          job same all _ start later c.in_default-take.not-Memory;
    }
