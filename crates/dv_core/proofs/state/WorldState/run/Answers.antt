use Rattle.std.proofs.Common.{ℕ, ◌+◌, List, [], ◌∷◌, ◌++◌, get_or, drop, append-nil, append_assoc, ap, subst, sym, refl, ◌∙◌}
use Rattle.dv_core.specs.Worlds.{IsRunWithProgress, shown, with_replies}
use Rattle.dv_core.specs.declared.step.Reply.{Reply}
use Rattle.dv_core.specs.declared.step.Step.{Step}
use Rattle.dv_core.specs.declared.step.Step.TheVariants as step
use Rattle.std.proofs.lemmas.Option.{slice_get-get_or}
use Rattle.dv_core.proofs.Driving.{run_more, true_to_model}
use Rattle.dv_core.proofs.Lookups.{drop_all, drop_item}
use Rattle.dv_core.proofs.state.WorldState.run.Goals as goal

pub returns-in_err-replies-clause-true_to_model : goal.returns-in_err-replies-clause-true_to_model
returns-in_err-replies-clause-true_to_model g c = true_to_model c.args.self.now c.requires

pub returns-clause-true_to_model : goal.returns-clause-true_to_model
returns-clause-true_to_model g c = true_to_model c.loop-step.self c.loop-step.invariant.stands

pub loop-step-preserved : goal.loop-step-preserved
loop-step-preserved g c =
    let inv = c.loop-step.invariant in
    let i = c.loop-step.step-index in
    let steps = c.args.steps.now in
    let made = get_or steps i (step.Turn 0) in
    let job = g.J.PlannedJob.means c.args.self.now.job in
    let start = shown g.J.PlannedJob.means g.P.LogicalProcess.state c.args.self.now in
    let now = shown g.J.PlannedJob.means g.P.LogicalProcess.state c.loop-step.self in
    let first = drop_item steps i made (slice_get-get_or steps i (step.Turn 0) c.loop-step-test.true) in
    record {
      stands = c.step-reply.ensures.stands;
      same = c.step-reply.ensures.answered.job ∙ inv.same;
      room = (c.push_reserved.ensures.len ∙ ap (λ (n : ℕ). n + 1) inv.room.0, c.push_reserved.ensures.capacity ∙ inv.room.1);
      run = λ t u h.
          let answers = c.step-reply.result in
          let more = run_more c.loop-step.self c.step-reply.new.self made answers c.step-reply.ensures.answered
          job (ap g.J.PlannedJob.means inv.same) (drop (i + 1) steps) t u h in
          let all = inv.run (answers ∷ t) u
          (subst (λ (ss : List Step). IsRunWithProgress job (with_replies ss (answers ∷ t)) now u) (sym first) more) in
          subst (λ (rs : List Reply). IsRunWithProgress job (with_replies steps rs) start u)
          (sym (ap (λ (rs : List Reply). rs ++ t) c.push_reserved.ensures.items
          ∙ append_assoc c.loop-step.replies.items (answers ∷ []) t)) all;
    }

pub returns-clause-run : goal.returns-clause-run
returns-clause-run g c =
    let inv = c.loop-step.invariant in
    let done = drop_all c.args.steps.now c.loop-step.step-index c.loop-step-test.false in
    let job = g.J.PlannedJob.means c.args.self.now.job in
    let start = shown g.J.PlannedJob.means g.P.LogicalProcess.state c.args.self.now in
    let now = shown g.J.PlannedJob.means g.P.LogicalProcess.state c.loop-step.self in
    subst (λ (rs : List Reply). IsRunWithProgress job (with_replies c.args.steps.now rs) start now) (append-nil c.loop-step.replies.items)
    (inv.run [] now (subst (λ (ss : List Step). IsRunWithProgress job (with_replies ss []) now now) (sym done) refl))
