use Rattle.std.proofs.Common.{◌≡◌, ◌++◌, drop, map}
use Rattle.dv_conservative.specs.World.{Job, outgoing_from}
use Rattle.dv_plan.specs.Channels.{away_of}
use Rattle.dv_proc.specs.Channels.{meant_channel}
use Rattle.dv_plan.proofs.channels.outgoing.Given as goal

abbrev pub invariant-loop-number : goal.invariant-loop-number
invariant-loop-number l = (job : Job) →
    map (away_of job l.process) l.found.items ++ outgoing_from job l.process l.number (map meant_channel (drop l.number l.channels))
    ≡ outgoing_from job l.process 0 (map meant_channel l.channels)
