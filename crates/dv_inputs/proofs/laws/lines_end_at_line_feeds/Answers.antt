use Rattle.dv_inputs.proofs.Spellings.{line_last, line_then, one_return}
use Rattle.dv_inputs.proofs.laws.lines_end_at_line_feeds.Goals as goal

pub returns-clause-line : goal.returns-clause-line
returns-clause-line c = line_then

pub returns-clause-last : goal.returns-clause-last
returns-clause-last c = line_last

pub returns-clause-carriage_return : goal.returns-clause-carriage_return
returns-clause-carriage_return c = one_return
