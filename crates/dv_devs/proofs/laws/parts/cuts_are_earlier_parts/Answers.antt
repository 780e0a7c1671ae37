use Rattle.dv_devs.proofs.Cuts.{part_cut, trace_cut}
use Rattle.dv_devs.proofs.laws.parts.cuts_are_earlier_parts.Goals as goal

pub returns-clause-part : goal.returns-clause-part
returns-clause-part g c = part_cut

pub returns-clause-trace : goal.returns-clause-trace
returns-clause-trace g c = trace_cut
