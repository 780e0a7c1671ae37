use Rattle.dv_devs.proofs.ByTime.{part_by_time, trace_by_time}
use Rattle.dv_devs.proofs.laws.parts.parts_are_by_time.Goals as goal

pub returns-clause-trace : goal.returns-clause-trace
returns-clause-trace g c = trace_by_time

pub returns-clause-part : goal.returns-clause-part
returns-clause-part g c = part_by_time
