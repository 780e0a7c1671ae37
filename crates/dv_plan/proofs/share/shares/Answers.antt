use Rattle.std.proofs.Common.{◌≡◌, ◌<◌, ℕ, List, [], ◌∷◌, ◌+◌, Some, ap, arith, length, length-append, map, subst, sym, ◌∙◌}
use Rattle.std.specs.List.{slice_get}
use Rattle.std.specs.Vec.Iter.{into_iter_items, into_iter_steps}
use Rattle.std.proofs.lemmas.List.{get_or-map, length-map}
use Rattle.dv_share.specs.Indices.{AreRising}
use Rattle.dv_share.specs.Share.{numbers_of}
use Rattle.dv_share.specs.declared.tables.Member.{Member}
use Rattle.dv_plan.proofs.Lists.{all_at, first_left}
use Rattle.dv_plan.proofs.Shares.{made_more}
use Rattle.dv_plan.proofs.share.shares.Goals as goal
use Rattle.dv_plan.proofs.share.shares.Goals.{in-Some+in_ok-models+in_ok-share+in_ok-push, in_default}

pub share_of_process-requires-clause-rise : goal.share_of_process-requires-clause-rise
share_of_process-requires-clause-rise g c =
    let all = c.args.members.items in
    let i = c.loop-process.process in
    let list = c.in-Some.list in
    let step = subst (λ r. into_iter_steps c.loop-process.rest r c.next.new.self) c.in-Some.is c.next.ensures.cases in
    let lt : i < length all = omega (arith, step.1, c.loop-process.invariant.left) in
    let first = first_left all i list list (into_iter_items c.next.new.self) lt (sym c.loop-process.invariant.rest ∙ step.0) in
    let long = length-map all (λ l. l.items) in
    subst (λ (ms : List Member). AreRising (numbers_of ms)) (get_or-map (λ l. l.items) all i list [] lt ∙ ap (λ l. l.items) first.0)
    (all_at (λ (ms : List Member). AreRising (numbers_of ms)) (map (λ l. l.items) all) c.requires.rise i [] (omega (arith, lt, long)))

pub loop-process-preserved : goal.loop-process-preserved
loop-process-preserved g c =
    let all = c.args.members.items in
    let i = c.loop-process.process in
    let invariant = c.loop-process.invariant in
    let old = c.loop-process.found.items in
    elim c.match-next.branch [
      | in-Some+in_ok-models+in_ok-share+in_ok-push w ↦
          let list = w.in-Some.list in
          let step = subst (λ r. into_iter_steps c.loop-process.rest r c.next.new.self) w.in-Some.is c.next.ensures.cases in
          let lt : i < length all = omega (arith, step.1, invariant.left) in
          let first = first_left all i list list (into_iter_items c.next.new.self) lt (sym invariant.rest ∙ step.0) in
          let items = ap (λ v. v.items) w.found-is ∙ w.in_ok-push.ensures.items in
          let share = w.in_ok-share.share in
          record {
            left = omega (arith, step.1, invariant.left);
            rest = sym first.1;
            count = ap length items ∙ length-append old (share ∷ []) ∙ ap (λ (n : ℕ). n + 1) invariant.count;
            made = λ p s e.
                made_more c.args.common.now (map (λ l. l.items) all) c.args.models.now old share i list.items w.in_ok-models.models.items
                invariant.made invariant.count (get_or-map (λ l. l.items) all i list [] lt ∙ ap (λ l. l.items) first.0)
                w.in_ok-models.ensures
                w.in_ok-share.ensures p s (subst (λ xs. slice_get xs p ≡ Some s) items e);
          }
      | in_default w ↦
          let step = subst (λ r. into_iter_steps c.loop-process.rest r c.next.new.self) w.in_default.is c.next.ensures.cases in
          absurd (omega (arith, step.0, invariant.left, c.loop-process-test.true, c.len-processes.ensures, c.args.members.ok.0))
    ]
