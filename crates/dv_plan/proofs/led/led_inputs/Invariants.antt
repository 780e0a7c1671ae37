use Rattle.std.proofs.Common.{◌≡◌, ◌&&◌, ◌++◌, drop, false, filter, get_or, nat_le}
use Rattle.dv_bag.specs.declared.inputs.Input.{Input}
use Rattle.dv_plan.proofs.led.led_inputs.Given as goal

-- what is kept, with what of the rest comes, is what of all comes
abbrev pub invariant-loop-input : goal.invariant-loop-input
invariant-loop-input l =
    l.kept ++ filter (λ (i : Input). nat_le i.time.micro l.limit && get_or l.led.items i.port false) (drop l.input-index l.input-items)
    ≡ filter (λ (i : Input). nat_le i.time.micro l.limit && get_or l.led.items i.port false) l.input-items
