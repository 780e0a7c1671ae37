use Rattle.std.proofs.Common.{ℕ, ap, ◌∙◌, Option}
use Rattle.dv_eval.specs.declared.scope.Domain.{Domain}
use Rattle.dv_check.specs.Limits.{greatest_names}
use Rattle.dv_check.specs.Names.{first_of, within_limit}
use Rattle.dv_check.specs.Rules.{domain_of_state_variable, is_in_range, is_start_known, is_start_known_by, number_of_state_variable}
use Rattle.dv_check.proofs.starts.Starts.of.Goals as goal

pub returns : goal.returns
unfolding is_start_known is_start_known_by
returns c =
    ap (λ (domains : ℕ → Option Domain). λ (q : ℕ). is_in_range (domains q))
    (c.in_ok-directory_of.ensures
    ∙ ap (first_of number_of_state_variable domain_of_state_variable)
    (c.within_limit.ensures ∙ ap (within_limit greatest_names) (c.deref.ensures.value ∙ c.in_ok-variables.ensures)))
