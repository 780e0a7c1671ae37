use Rattle.std.proofs.Common.{◌≡◌, drop}
use Rattle.dv_bag.specs.InputSteps.{with_inputs}
use Rattle.dv_bag.proofs.inputs.put_all.Given as goal

abbrev pub invariant-loop-input : goal.invariant-loop-input
invariant-loop-input l = with_inputs (drop l.input-index l.inputs) l.bags ≡ with_inputs l.inputs l.fn.bags
