use Rattle.std.proofs.Common.{◌≡◌, ℕ, List, [], subst}
use Rattle.dv_code.specs.Machine.{begins, first_effect, run}
use Rattle.dv_code.specs.declared.instruction.Instruction.{Instruction}
use Rattle.dv_gen.specs.Resolved.{rule_effect, value_of}
use Rattle.dv_gen.specs.Generator.{ending, hold_ending}
use Rattle.dv_gen.proofs.Marks.{same_code, same_code_all}
use Rattle.dv_gen.proofs.Simulation.{hold_means, rule_means}
use Rattle.dv_gen.proofs.laws.generated_programs_do_what_the_tree_means.Goals as goal

pub returns-clause-rule : goal.returns-clause-rule
returns-clause-rule c shape depth body typed arrivals s fits =
    subst
    (λ (code : List Instruction). (n : ℕ) × (run shape code arrivals n (begins shape s) ≡ ending (rule_effect shape arrivals body s)))
    (same_code_all body 0 [] _) (rule_means shape arrivals s fits depth body typed)

pub returns-clause-hold : goal.returns-clause-hold
returns-clause-hold c shape e typed arrivals s fits =
    subst
    (λ (code : List Instruction).
    (n : ℕ) × (run shape code arrivals n (begins shape s) ≡ hold_ending (first_effect shape s) (value_of arrivals [] s e)))
    (same_code e 0 [] [] _) (hold_means shape arrivals s fits e typed)
