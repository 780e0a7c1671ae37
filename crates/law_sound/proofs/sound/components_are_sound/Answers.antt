use Rattle.dv_conservative.specs.Sound.{are_of_numbers}
use Rattle.law_sound.proofs.Soundness.{is_sound}
use Rattle.law_sound.proofs.sound.components_are_sound.Goals as goal

pub returns : goal.returns
returns c limit k m compilable numbers =
    is_sound m compilable numbers
    (c.programs_behave_as_rules.ensures.keeps m are_of_numbers compilable)
    (c.programs_behave_as_rules.ensures.agrees m are_of_numbers compilable)
    (λ elapsed ticks bags s change few fit is goes held hold.
    c.hold_programs_are_not_below_the_response.ensures m elapsed ticks bags s change compilable few fit is goes held hold)
    (c.start_states_fit.ensures m compilable.accepted) limit k
