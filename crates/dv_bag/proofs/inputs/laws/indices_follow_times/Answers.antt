use Rattle.dv_bag.proofs.InputWalks.{next_at_index, next_not_before, next_of_run, ranks_rise, same_rank}
use Rattle.dv_bag.proofs.inputs.laws.indices_follow_times.Goals as goal

pub returns-clause-next : goal.returns-clause-next
returns-clause-next c = λ limit inputs t. next_at_index limit t inputs

pub returns-clause-of_run : goal.returns-clause-of_run
returns-clause-of_run c = λ limit inputs t. next_of_run limit t inputs

pub returns-clause-not_before : goal.returns-clause-not_before
returns-clause-not_before c = next_not_before

pub returns-clause-rises : goal.returns-clause-rises
returns-clause-rises c = ranks_rise

pub returns-clause-same : goal.returns-clause-same
returns-clause-same c = same_rank
