use Rattle.std.proofs.Common.{◌≡◌, ◌++◌, drop}
use Rattle.dv_check.specs.Ports.{ports_by_offset}
use Rattle.dv_check.proofs.ports.ports_by_offset.Given as goal

abbrev pub invariant-loop-input : goal.invariant-loop-input
invariant-loop-input l = l.ports.items ++ ports_by_offset (drop l.input-index l.inputs) l.rest ≡ ports_by_offset l.inputs l.outputs
