use Rattle.std.proofs.Common.{◌≡◌, ◌++◌, drop, map}
use Rattle.dv_conservative.specs.World.{incoming_from}
use Rattle.dv_proc.specs.Channels.{meant_channel}
use Rattle.dv_plan.proofs.channels.incoming.Given as goal

abbrev pub invariant-loop-number : goal.invariant-loop-number
invariant-loop-number l =
    l.found.items ++ incoming_from l.process l.number (map meant_channel (drop l.number l.channels))
    ≡ incoming_from l.process 0 (map meant_channel l.channels)
