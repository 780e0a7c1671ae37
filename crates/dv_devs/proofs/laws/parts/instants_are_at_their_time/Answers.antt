use Rattle.dv_devs.specs.Network.{emissions, instant}
use Rattle.dv_devs.proofs.Cuts.{instant_at, numbers_rise, part_is_before, ports_rise, trace_is_before}
use Rattle.dv_devs.proofs.laws.parts.instants_are_at_their_time.Goals as goal

pub returns-clause-at : goal.returns-clause-at
returns-clause-at g c = instant_at

pub returns-clause-components : goal.returns-clause-components
returns-clause-components g c limit net now input cs rise = numbers_rise limit now 0 net.numbers (instant limit net now input cs) rise

pub returns-clause-ports : goal.returns-clause-ports
returns-clause-ports g c limit net now input cs = ports_rise limit now 0 (net.leaves (emissions net.behaviours now cs))

pub returns-clause-trace : goal.returns-clause-trace
returns-clause-trace g c = trace_is_before

pub returns-clause-part : goal.returns-clause-part
returns-clause-part g c = part_is_before
