use Rattle.dv_gen.specs.ModelCode.{phase_codes}
use Rattle.law_accepted.specs.Fitting.{fits}
use Rattle.dv_plain.specs.Source.{behaviour_of}
use Rattle.law_compiled.specs.Behaviours.{behaviour_by}
use Rattle.law_sound.proofs.Soundness.{keeps_alike}
use Rattle.law_sound.proofs.sound.programs_keep_to_the_states_that_fit.Goals as goal

pub returns : goal.returns
returns c m comes compilable =
    keeps_alike (fits m) comes (behaviour_of m) (behaviour_by (phase_codes m)) (c.programs_behave_as_rules.ensures.keeps m comes compilable)
    (c.programs_behave_as_rules.ensures.agrees m comes compilable)
