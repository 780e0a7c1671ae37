use Rattle.std.proofs.Common.{rules}
use Rattle.dv_run.proofs.Numbered.{one_more_share}
use Rattle.dv_run.proofs.numbers.shares_have_numbers.Goals as goal

pub loop-share-preserved : goal.loop-share-preserved
loop-share-preserved g c = search (rules, one_more_share)
