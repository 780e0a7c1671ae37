use Rattle.std.proofs.Common.{◌≡◌, ℕ, ap, subst, sym, refl, arith}
use Rattle.dv_conservative.specs.Rounds.{AreRounds, round}
use Rattle.dv_conservative.specs.World.{Job}
use Rattle.dv_core.specs.Worlds.{IsCut, IsWhole, shown}
use Rattle.dv_core.proofs.Driving.{enough_rounds, true_to_model}
use Rattle.dv_core.proofs.state.WorldState.serial.Goals as goal

pub returns-then-whole-clause-true_to_model : goal.returns-then-whole-clause-true_to_model
returns-then-whole-clause-true_to_model g c = true_to_model c.loop-done.self c.loop-done.invariant.stands

pub returns-then-not-round-clause-rounds : goal.returns-then-not-round-clause-rounds
returns-then-not-round-clause-rounds g c =
    let now = shown g.J.PlannedJob.means g.P.LogicalProcess.state c.loop-done.self in
    let after = shown g.J.PlannedJob.means g.P.LogicalProcess.state c.round.new.self in (
      c.loop-done._done,
      c.loop-done-test.true,
      (
        now,
        c.loop-done.invariant.rounds,
        subst (λ (j : Job). IsCut j (round j) now after) (ap g.J.PlannedJob.means c.loop-done.invariant.same)
            (c.if-not-round.ensures.cut refl),
      ),
    )

pub returns-then-not-round-clause-true_to_model : goal.returns-then-not-round-clause-true_to_model
returns-then-not-round-clause-true_to_model g c = true_to_model c.round.new.self c.round.ensures.stands

pub returns-then-whole-2-clause-true_to_model : goal.returns-then-whole-2-clause-true_to_model
returns-then-whole-2-clause-true_to_model g c = true_to_model c.loop-done.self c.loop-done.invariant.stands

pub returns-clause-enough : goal.returns-clause-enough
returns-clause-enough g c = λ capacity fresh some enough _.
    let job = g.J.PlannedJob.means c.args.self.now.job in
    let start = shown g.J.PlannedJob.means g.P.LogicalProcess.state c.args.self.now in
    let now = shown g.J.PlannedJob.means g.P.LogicalProcess.state c.loop-done.self in
    let used : c.loop-done._done ≡ c.args.limit = omega (arith, c.loop-done-test.false, c.loop-done.auto) in
    let rounds = subst (λ (k : ℕ). AreRounds job k start now) used c.loop-done.invariant.rounds in
    let is_whole = enough_rounds job capacity c.args.limit start now fresh some c.requires.kept.ends enough rounds in
    let known = c.whole-2.ensures.whole.1
    (subst (λ (j : Job). IsWhole j now) (sym (ap g.J.PlannedJob.means c.loop-done.invariant.same)) is_whole) in
    let not = c.if-whole-2.false in
    absurd (cc)

pub returns-clause-true_to_model : goal.returns-clause-true_to_model
returns-clause-true_to_model g c = true_to_model c.loop-done.self c.loop-done.invariant.stands
