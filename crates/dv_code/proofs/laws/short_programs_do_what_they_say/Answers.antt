use Rattle.dv_code.proofs.ShortPrograms.{goes, nothing}
use Rattle.dv_code.proofs.laws.short_programs_do_what_they_say.Goals as goal

pub returns-clause-nothing : goal.returns-clause-nothing
returns-clause-nothing c p safe arrivals few s fits is = nothing p arrivals s safe few fits is

pub returns-clause-goes : goal.returns-clause-goes
returns-clause-goes c p safe arrivals few s fits phase is = goes p arrivals s safe few fits phase is
