use Rattle.dv_gen.proofs.Lengths.{file_within, hold_within, rule_within}
use Rattle.dv_gen.proofs.laws.programs_are_no_longer_than_their_spellings.Goals as goal

pub returns-clause-rules : goal.returns-clause-rules
returns-clause-rules c = rule_within

pub returns-clause-holds : goal.returns-clause-holds
returns-clause-holds c = hold_within

pub returns-clause-writable : goal.returns-clause-writable
returns-clause-writable c = file_within
