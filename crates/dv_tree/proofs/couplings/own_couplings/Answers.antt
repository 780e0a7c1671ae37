use Rattle.std.proofs.Common.{◌≡◌, [], ◌++◌, ap, ◌∙◌}
use Rattle.std.specs.List.{cons_option}
use Rattle.dv_tree.specs.Couplings.{coupling_from_own}
use Rattle.dv_tree.specs.declared.couplings.ResolvedLink.{ResolvedLink}
use Rattle.dv_tree.proofs.Gathered.{gathered_found, none_found, one_found}
use Rattle.dv_tree.proofs.couplings.own_couplings.Goals as goal
use Rattle.dv_tree.proofs.couplings.own_couplings.Goals.{in-Some+in_ok-push, in_default}

pub loop-link-preserved : goal.loop-link-preserved
loop-link-preserved c =
    let found = c.coupling_from_own.result in
    let before = c.loop-link.couplings.items in
    let next : c.match-coupling_from_own.couplings.items ≡ before ++ cons_option found [] =
    elim c.match-coupling_from_own.branch [
      | in-Some+in_ok-push w ↦ one_found _ _ _ _ w.in-Some.is (ap (λ v. v.items) w.couplings-is ∙ w.in_ok-push.ensures.items)
      | in_default w ↦ none_found _ _ _ w.in_default.is (ap (λ v. v.items) w.couplings-is)
    ] in
    gathered_found (λ (l : ResolvedLink). coupling_from_own l.from l.to) before c.match-coupling_from_own.couplings.items _ _ _ found
    c.loop-link-test.true c.coupling_from_own.ensures next c.loop-link.invariant
