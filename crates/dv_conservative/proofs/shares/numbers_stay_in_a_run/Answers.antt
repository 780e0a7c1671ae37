use Rattle.dv_conservative.proofs.Running.{numbers_arrive_before, sent_numbers_at, states_at}
use Rattle.dv_conservative.proofs.shares.numbers_stay_in_a_run.Goals as goal

pub returns-clause-states : goal.returns-clause-states
returns-clause-states c fits s received n sound ours = states_at fits s received sound ours n

pub returns-clause-arrive : goal.returns-clause-arrive
returns-clause-arrive c fits s received n sound ours = numbers_arrive_before fits s received sound ours n

pub returns-clause-sent : goal.returns-clause-sent
returns-clause-sent c fits s received n sound ours = sent_numbers_at fits s received sound ours n
