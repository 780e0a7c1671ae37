use Rattle.std.proofs.Common.{List, ap, subst, refl, ◌∙◌}
use Rattle.dv_conservative.specs.Rounds.{moves_from, round}
use Rattle.dv_conservative.specs.World.{Step}
use Rattle.dv_core.specs.Worlds.{shown}
use Rattle.dv_core.specs.Standing.{Continues}
use Rattle.dv_core.specs.declared.step.Step.TheVariants as step
use Rattle.dv_core.proofs.Driving.{one_more, cut_here, turns_next}
use Rattle.dv_core.proofs.state.WorldState.turns.Goals as goal

pub loop-process-preserved : goal.loop-process-preserved
loop-process-preserved g c =
    let inv = c.loop-process.invariant in
    let job = g.J.PlannedJob.means c.args.self.now.job in
    let start = shown g.J.PlannedJob.means g.P.LogicalProcess.state c.args.self.now in
    let now = shown g.J.PlannedJob.means g.P.LogicalProcess.state c.loop-process.self in
    record {
      stands = c.turn.ensures.stepped.stands;
      same = c.turn.ensures.stepped.answered.job ∙ inv.same;
      handed = c.turn.ensures.handed ∙ inv.handed;
      count = inv.count;
      continues = one_more c.loop-process.self c.turn.new.self (step.Turn c.loop-process.process) c.turn.result
          c.turn.ensures.stepped.answered
          job (ap g.J.PlannedJob.means inv.same) (round job) _ start
          (subst (λ (ss : List Step). Continues job (round job) ss start now)
          (turns_next job (moves_from 0 job.channels) c.loop-process.process c.len-count.result c.loop-process-test.true) inv.continues)
          c.in_default.not-Memory;
    }

pub returns-in-Memory-clause-cut : goal.returns-in-Memory-clause-cut
returns-in-Memory-clause-cut g c =
    let inv = c.loop-process.invariant in
    let job = g.J.PlannedJob.means c.args.self.now.job in
    let start = shown g.J.PlannedJob.means g.P.LogicalProcess.state c.args.self.now in
    let now = shown g.J.PlannedJob.means g.P.LogicalProcess.state c.loop-process.self in
    λ _. cut_here c.loop-process.self c.turn.new.self (step.Turn c.loop-process.process) _ c.in-Memory.ensures.stepped.answered
    job (ap g.J.PlannedJob.means inv.same) (round job) _ start
    (subst (λ (ss : List Step). Continues job (round job) ss start now)
    (turns_next job (moves_from 0 job.channels) c.loop-process.process c.len-count.result c.loop-process-test.true) inv.continues)
    refl
