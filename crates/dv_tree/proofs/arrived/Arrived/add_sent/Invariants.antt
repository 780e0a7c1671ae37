use Rattle.std.proofs.Common.{◌≡◌, drop}
use Rattle.dv_tree.specs.Routing.{along}
use Rattle.dv_tree.proofs.arrived.Arrived.add_sent.Given as goal

abbrev pub invariant-loop-coupling : goal.invariant-loop-coupling
invariant-loop-coupling l = along (drop l.coupling-index l.couplings) l.sent l.self ≡ along l.couplings l.sent l.initial.self
