use Rattle.dv_devs.proofs.Parts.{part_entries, part_of_all}
use Rattle.dv_devs.proofs.laws.parts.parts_are_of_the_trace.Goals as goal

pub returns-clause-all : goal.returns-clause-all
returns-clause-all g c limit net inputs n numbered = part_of_all limit net inputs numbered n

pub returns-clause-entries : goal.returns-clause-entries
returns-clause-entries g c = part_entries
