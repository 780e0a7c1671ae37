use Rattle.std.proofs.Common.{ap, arith}
use Rattle.dv_time.specs.Time.{time_of}
use Rattle.dv_time.proofs.Ranks.{time_of-rank}
use Rattle.dv_bag.specs.Inputs.{bags_at}
use Rattle.dv_bag.proofs.InputLists.{above_brings_nothing}
use Rattle.dv_bag.proofs.inputs.laws.inputs_come_at_their_times.Goals as goal

pub returns-clause-at_rank : goal.returns-clause-at_rank
returns-clause-at_rank c = λ limit ports t inputs run. ap (bags_at ports inputs) (time_of-rank limit t run)

pub returns-clause-above : goal.returns-clause-above
returns-clause-above c = λ limit ports n i front back lt.
    above_brings_nothing limit ports (time_of limit n) i front back (omega arith) lt
