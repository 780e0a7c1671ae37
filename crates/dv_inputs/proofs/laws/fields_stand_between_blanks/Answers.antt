use Rattle.dv_inputs.proofs.Spellings.{blanks_first, field_first}
use Rattle.dv_inputs.proofs.laws.fields_stand_between_blanks.Goals as goal

pub returns-clause-blanks : goal.returns-clause-blanks
returns-clause-blanks c = blanks_first

pub returns-clause-field : goal.returns-clause-field
returns-clause-field c = field_first
