use Rattle.dv_devs.proofs.Cuts.{part_since, trace_since}
use Rattle.dv_devs.proofs.laws.parts.the_rest_is_between.Goals as goal

pub returns-clause-part : goal.returns-clause-part
returns-clause-part g c = part_since

pub returns-clause-trace : goal.returns-clause-trace
returns-clause-trace g c = trace_since
