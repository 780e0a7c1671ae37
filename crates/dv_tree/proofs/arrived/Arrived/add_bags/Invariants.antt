use Rattle.std.proofs.Common.{◌≡◌, drop}
use Rattle.dv_tree.specs.Routing.{along}
use Rattle.dv_tree.proofs.arrived.Arrived.add_bags.Given as goal

abbrev pub invariant-loop-coupling : goal.invariant-loop-coupling
invariant-loop-coupling l = along (drop l.coupling-index l.couplings) l.bags l.self ≡ along l.couplings l.bags l.initial.self
