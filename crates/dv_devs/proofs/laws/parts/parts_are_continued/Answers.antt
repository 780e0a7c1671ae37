use Rattle.dv_devs.specs.Network.{trace_at}
use Rattle.dv_devs.specs.Parts.{part_at}
use Rattle.dv_devs.proofs.Cuts.{join_between}
use Rattle.dv_devs.proofs.laws.parts.parts_are_continued.Goals as goal

pub returns-clause-part : goal.returns-clause-part
returns-clause-part g c limit net inputs who = join_between (part_at who limit net inputs)

pub returns-clause-trace : goal.returns-clause-trace
returns-clause-trace g c limit net inputs = join_between (trace_at limit net inputs)
