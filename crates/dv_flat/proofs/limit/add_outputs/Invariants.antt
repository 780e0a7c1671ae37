use Rattle.std.proofs.Common.{◌≡◌, drop}
use Rattle.std.specs.List.{fold}
use Rattle.dv_flat.specs.Ways.{with_output}
use Rattle.dv_flat.proofs.limit.add_outputs.Given as goal

abbrev pub invariant-loop-coupling : goal.invariant-loop-coupling
invariant-loop-coupling l =
    fold (with_output l.outputs) l.ways (drop l.coupling-index l.couplings) ≡ fold (with_output l.outputs) l.initial.ways l.couplings
