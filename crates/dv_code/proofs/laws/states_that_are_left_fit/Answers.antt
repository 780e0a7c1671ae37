use Rattle.dv_code.specs.Machine.{first_effect}
use Rattle.dv_code.specs.Outcomes.{outcome_of}
use Rattle.dv_code.proofs.ShortPrograms.{effect_fits, ends_well}
use Rattle.dv_code.proofs.laws.states_that_are_left_fit.Goals as goal

pub returns : goal.returns
returns c p safe arrivals few s fits e is =
    effect_fits p (first_effect p.shape s) e (outcome_of p arrivals s) (ends_well p arrivals s safe few fits) is
