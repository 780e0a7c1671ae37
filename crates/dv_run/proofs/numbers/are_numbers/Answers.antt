use Rattle.std.proofs.Common.{rules}
use Rattle.dv_run.proofs.Numbered.{one_more_number}
use Rattle.dv_run.proofs.numbers.are_numbers.Goals as goal

pub loop-input-preserved : goal.loop-input-preserved
loop-input-preserved c = search (rules, one_more_number)
