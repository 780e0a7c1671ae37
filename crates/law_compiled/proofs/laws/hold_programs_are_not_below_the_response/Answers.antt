use Rattle.std.proofs.Common.{Bool, IsTrue, List, Ok, Some, subst, true, refl, ◌≡◌, ◌∙◌}
use Rattle.std.proofs.lemmas.Result.{IfOk-at_ok}
use Rattle.dv_syntax.specs.declared.tree.RuleSort.TheVariants.{External}
use Rattle.dv_bag.specs.Bag.{Counts}
use Rattle.dv_bag.specs.declared.state.State.{State}
use Rattle.dv_devs.specs.Behaviour.{Change}
use Rattle.dv_eval.specs.Meaning.{effect_of, hold_of}
use Rattle.dv_eval.specs.Scope.{hold_ticks, phase_name, rule_body, scope_of}
use Rattle.law_accepted.specs.Fitting.{fits}
use Rattle.dv_bag.specs.Numbers.{HoldsNumbers}
use Rattle.law_compiled.specs.Behaviours.{arriving}
use Rattle.law_compiled.proofs.Floods.{few_pass}
use Rattle.law_compiled.proofs.Responses.{goes_by_effect}
use Rattle.law_compiled.proofs.laws.hold_programs_are_not_below_the_response.Goals as goal

pub returns : goal.returns
returns c = λ m elapsed ticks bags s change compilable few fit is goes numbers hold.
    let any : List Counts → Bool = λ bags. true in
    let keeps = c.programs_behave_as_rules.ensures.keeps m any compilable in
    let agrees = c.programs_behave_as_rules.ensures.agrees m any compilable in
    let passed = few_pass bags few in
    let scope = scope_of m in
    let phase = phase_name scope s.phase in
    let by_rule = agrees.external elapsed bags s fit refl passed ∙ is in
    let arrivals = arriving bags elapsed in
    let went = goes_by_effect (effect_of scope (rule_body External phase m.rules) arrivals s) change by_rule goes in
    let kept = IfOk-at_ok (λ (c' : Change). IsTrue (fits m c'.state)) by_rule (keeps.external elapsed bags s fit refl passed) in
    let held = agrees.hold change.state kept ∙ hold in
    c.holds_are_not_below_the_response.ensures m phase went.index ticks arrivals s went.left fit went.is went.to
    (subst (λ (t : State). HoldsNumbers t.variables) went.state numbers)
    (subst (λ (t : State). hold_of scope (hold_ticks (phase_name scope t.phase) m.holds) t ≡ Ok (Some ticks)) went.state held)
