use Rattle.std.proofs.Common.{◌≡◌, [], ◌++◌, ap, ◌∙◌}
use Rattle.std.specs.List.{cons_option}
use Rattle.dv_tree.specs.Tables.{resolved_part}
use Rattle.dv_tree.proofs.Gathered.{gathered_found, none_found, one_found}
use Rattle.dv_tree.proofs.resolved_parts.resolved_parts.Goals as goal
use Rattle.dv_tree.proofs.resolved_parts.resolved_parts.Goals.{in-Some+in_ok-push, in_default}

pub loop-part-preserved : goal.loop-part-preserved
loop-part-preserved c =
    let found = c.resolved_part.result in
    let before = c.loop-part.resolved.items in
    let next : c.match-resolved_part.resolved.items ≡ before ++ cons_option found [] =
    elim c.match-resolved_part.branch [
      | in-Some+in_ok-push w ↦ one_found _ _ _ _ w.in-Some.is (ap (λ v. v.items) w.resolved-is ∙ w.in_ok-push.ensures.items)
      | in_default w ↦ none_found _ _ _ w.in_default.is (ap (λ v. v.items) w.resolved-is)
    ] in
    gathered_found (resolved_part c.args.models.now) before c.match-resolved_part.resolved.items _ _ _ found c.loop-part-test.true
    c.resolved_part.ensures next c.loop-part.invariant
