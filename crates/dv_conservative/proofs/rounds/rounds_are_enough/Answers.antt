use Rattle.dv_conservative.proofs.Rounding.{all_at_end, clocks_follow, windows_grow}
use Rattle.dv_conservative.proofs.rounds.rounds_are_enough.Goals as goal

pub returns-clause-clocks : goal.returns-clause-clocks
returns-clause-clocks x = clocks_follow

pub returns-clause-channel_clocks : goal.returns-clause-channel_clocks
returns-clause-channel_clocks x = windows_grow

pub returns-clause-enough : goal.returns-clause-enough
returns-clause-enough x = all_at_end
