use Rattle.std.proofs.Common.{ap}
use Rattle.dv_code.specs.Machine.{first_effect}
use Rattle.dv_code.specs.Outcomes.{effect_at_end, number_at_end}
use Rattle.dv_code.proofs.Outcomes.{given}
use Rattle.dv_code.proofs.laws.the_machine_gives_what_programs_give.Goals as goal

pub returns-clause-effect : goal.returns-clause-effect
returns-clause-effect c p safe arrivals few s fits n e ends =
    ap (effect_at_end (first_effect p.shape s)) (given p arrivals s safe few fits n _ ends)

pub returns-clause-fault : goal.returns-clause-fault
returns-clause-fault c p safe arrivals few s fits n f ends =
    ap (effect_at_end (first_effect p.shape s)) (given p arrivals s safe few fits n _ ends)

pub returns-clause-sent : goal.returns-clause-sent
returns-clause-sent c p safe arrivals few s fits n sent (e, ends, is) =
    (e, ap (effect_at_end (first_effect p.shape s)) (given p arrivals s safe few fits n _ ends), is)

pub returns-clause-output_fault : goal.returns-clause-output_fault
returns-clause-output_fault c p safe arrivals few s fits n f ends =
    ap (effect_at_end (first_effect p.shape s)) (given p arrivals s safe few fits n _ ends)

pub returns-clause-number : goal.returns-clause-number
returns-clause-number c p safe arrivals few s fits n x ends = ap number_at_end (given p arrivals s safe few fits n _ ends.1)

pub returns-clause-hold_fault : goal.returns-clause-hold_fault
returns-clause-hold_fault c p safe arrivals few s fits n f ends = ap number_at_end (given p arrivals s safe few fits n _ ends)
