use Rattle.law_compiled.proofs.Agreeing.{programs_agree}
use Rattle.law_compiled.proofs.Keeping.{rules_keep}
use Rattle.law_compiled.proofs.Programs.{empty_rules_give, holds_give, rules_give}
use Rattle.law_compiled.proofs.laws.programs_behave_as_rules.Goals as goal

pub returns-clause-keeps : goal.returns-clause-keeps
returns-clause-keeps c m comes compilable =
    let kept = c.rules_keep_to_the_ranges.ensures in
    rules_keep m (kept.state m) (kept.goto m) (kept.phase m) comes

pub returns-clause-agrees : goal.returns-clause-agrees
returns-clause-agrees c m comes compilable =
    let accepted = compilable.accepted in
    let typed = c.accepted_rules_are_well_typed.ensures in
    let valid = c.generated_programs_are_valid.ensures in
    let compiled = c.compiled_rules_have_the_rules_effect.ensures in
    let outcome = c.programs_give_how_their_runs_end.ensures.outcome in
    let slots = c.states_fit_the_tables.ensures.fits m in
    let small = c.states_fit_the_tables.ensures.small m accepted in
    programs_agree m
    (rules_give m outcome slots small valid.rule (typed.rules m accepted) compilable.shallow (compiled.rules m accepted))
    (empty_rules_give m outcome slots small valid.rule)
    (holds_give m outcome slots small valid.hold c.valid_programs_end.ensures (typed.holds m accepted)
    (compiled.holds m accepted))
    comes
