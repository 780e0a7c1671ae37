use Rattle.dv_time.proofs.Ranks.{is_before-rank, time_of-rank}
use Rattle.dv_time.proofs.laws.ranks_are_the_order_of_times.Goals as goal

pub returns-clause-time_at_rank : goal.returns-clause-time_at_rank
returns-clause-time_at_rank c = time_of-rank

pub returns-clause-is_before : goal.returns-clause-is_before
returns-clause-is_before c = is_before-rank
