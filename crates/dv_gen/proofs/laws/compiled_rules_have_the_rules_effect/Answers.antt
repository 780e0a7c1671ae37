use Rattle.std.proofs.Common.{[], get_or}
use Rattle.dv_code.specs.Machine.{begins, first_effect, run}
use Rattle.dv_eval.specs.Meaning.{effect_of, meaning, moment_in, outermost}
use Rattle.dv_eval.specs.Scope.{scope_of}
use Rattle.dv_bag.specs.Arrivals.{nothing_arrived}
use Rattle.dv_gen.specs.Generator.{ending, hold_ending, hold_program_of, program_of}
use Rattle.dv_gen.specs.Resolution.{hold_shape, hold_tree, rule_shape, rule_tree}
use Rattle.dv_gen.specs.Resolved.{rule_effect, value_of}
use Rattle.dv_gen.proofs.Compiled.{ends_alike, if_both, if_so, left_of_type}
use Rattle.dv_gen.proofs.laws.compiled_rules_have_the_rules_effect.Goals as goal

pub returns-clause-valid_rules : goal.returns-clause-valid_rules
returns-clause-valid_rules c m ok k d within =
    c.generated_programs_are_valid.ensures.rule _ _ _ (c.accepted_rules_are_well_typed.ensures.rules m ok k d within)

pub returns-clause-valid_holds : goal.returns-clause-valid_holds
returns-clause-valid_holds c m ok k d within =
    if_so _ _
    (λ e typed. left_of_type _ _ _ _ typed.0
    (c.generated_programs_are_valid.ensures.hold (hold_shape (scope_of m)) (hold_tree m e) typed.1))
    (get_or m.holds k d).ticks (c.accepted_rules_are_well_typed.ensures.holds m ok k d within)

pub returns-clause-rules : goal.returns-clause-rules
returns-clause-rules c m ok k d within arrivals s fit =
    let r = get_or m.rules k d in
    let shape = rule_shape (scope_of m) r.sort in
    ends_alike ending (λ n. run shape (program_of (rule_tree m r.body)) arrivals n (begins shape s))
    (rule_effect shape arrivals (rule_tree m r.body) s) (effect_of (scope_of m) r.body arrivals s)
    (c.indices_mean_what_names_mean.ensures.rules m ok k d within arrivals s fit)
    (c.generated_programs_do_what_the_tree_means.ensures.rule shape _ (rule_tree m r.body)
    (c.accepted_rules_are_well_typed.ensures.rules m ok k d within) arrivals s (c.states_fit_the_tables.ensures.fits m s fit))

pub returns-clause-holds : goal.returns-clause-holds
returns-clause-holds c m ok k d within =
    let shape = hold_shape (scope_of m) in
    if_both _ _ _
    (λ e typed same s fit.
    ends_alike (hold_ending (first_effect shape s)) (λ n. run shape (hold_program_of (hold_tree m e)) nothing_arrived n (begins shape s))
    (value_of nothing_arrived [] s (hold_tree m e)) (meaning (scope_of m) (moment_in (outermost nothing_arrived) s) e) (same s fit)
    (c.generated_programs_do_what_the_tree_means.ensures.hold shape (hold_tree m e) typed.1 nothing_arrived s
    (c.states_fit_the_tables.ensures.fits m s fit)))
    (get_or m.holds k d).ticks (c.accepted_rules_are_well_typed.ensures.holds m ok k d within)
    (c.indices_mean_what_names_mean.ensures.holds m ok k d within)
