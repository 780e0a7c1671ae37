use Rattle.std.proofs.Common.{◌≡◌, [], ◌++◌, ap, ◌∙◌}
use Rattle.std.specs.List.{cons_option}
use Rattle.dv_tree.specs.Tables.{resolved_by, ports_at}
use Rattle.dv_tree.proofs.Gathered.{gathered_found, none_found, one_found}
use Rattle.dv_tree.proofs.levels.resolved_links.Goals as goal
use Rattle.dv_tree.proofs.levels.resolved_links.Goals.{in-Some+in_ok-push, in_default}

pub loop-link-preserved : goal.loop-link-preserved
loop-link-preserved c =
    let found = c.resolved_link.result in
    let before = c.loop-link.resolved.items in
    let next : c.match-resolved_link.resolved.items ≡ before ++ cons_option found [] =
    elim c.match-resolved_link.branch [
      | in-Some+in_ok-push w ↦ one_found _ _ _ _ w.in-Some.is (ap (λ v. v.items) w.resolved-is ∙ w.in_ok-push.ensures.items)
      | in_default w ↦ none_found _ _ _ w.in_default.is (ap (λ v. v.items) w.resolved-is)
    ] in
    let ends = c.args.ends.now in
    gathered_found
    (resolved_by ends.own_inputs ends.own_outputs ends.names (ports_at ends.inputs.now ends.parts.now)
    (ports_at ends.outputs.now ends.parts.now)) before c.match-resolved_link.resolved.items _ _ _ found c.loop-link-test.true
    c.resolved_link.ensures next c.loop-link.invariant
