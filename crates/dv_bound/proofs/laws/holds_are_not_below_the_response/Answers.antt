use Rattle.std.proofs.Common.{ℕ, subst}
use Rattle.law_accepted.specs.Fitting.{LeadsToPhase, in_phase}
use Rattle.dv_bound.proofs.NotBelow.{hold_after_goto}
use Rattle.dv_eval.specs.declared.scope.Domain.{Domain}
use Rattle.dv_eval.specs.Scope.{rule_body, scope_of}
use Rattle.dv_syntax.specs.declared.tree.RuleSort.TheVariants.{External}
use Rattle.dv_bound.proofs.laws.holds_are_not_below_the_response.Goals as goal

pub returns : goal.returns
returns c = λ m phase index ticks arrivals s e fit is goto numbers hold.
    let body = rule_body External phase m.rules in
    let kept = c.rules_keep_to_the_ranges.ensures in
    let within = subst (λ o. LeadsToPhase (scope_of m) o) goto (kept.goto m body arrivals s e fit is) in
    let fits_there = kept.phase m e.state index (kept.state m body arrivals s e fit is) within in
    let held = λ (name : ℕ) (d : Domain). c.accepted_names_are_known.ensures.values m (in_phase e.state index) name d fits_there in
    hold_after_goto m phase index ticks arrivals s e held numbers is goto hold
