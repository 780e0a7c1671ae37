use Rattle.dv_conservative.proofs.Beginnings.{part_alone}
use Rattle.dv_conservative.proofs.shares.one_process_commits_the_trace.Goals as goal

pub returns : goal.returns
returns c job p n events all none = part_alone job p all events n none
