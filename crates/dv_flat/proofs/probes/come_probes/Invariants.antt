use Rattle.std.proofs.Common.{◌≡◌, ◌-◌, ◌++◌, [], replicate}
use Rattle.dv_flat.specs.Probes.{probes_from}
use Rattle.dv_flat.proofs.probes.come_probes.Given as goal

abbrev pub invariant-loop-port : goal.invariant-loop-port
invariant-loop-port l = l.input ≡ probes_from l.first l.port ++ replicate (l.ports - l.port) []
