use Rattle.std.proofs.Common.{◌≡◌, ◌++◌, drop}
use Rattle.dv_flat.specs.Probes.{chosen_from}
use Rattle.dv_flat.proofs.ports.chosen.Given as goal

abbrev pub invariant-loop-index : goal.invariant-loop-index
invariant-loop-index l = l.chosen.items ++ chosen_from l.index l.flags (drop l.index l.ports) ≡ chosen_from 0 l.flags l.ports
