use Rattle.std.proofs.Common.{◌≡◌, ◌++◌, drop, map}
use Rattle.dv_local.specs.Shares.{outgoing_of}
use Rattle.dv_plan.specs.Steps.{way_of}
use Rattle.dv_plan.proofs.share.ways.Given as goal

abbrev pub invariant-loop-link : goal.invariant-loop-link
invariant-loop-link l = map outgoing_of l.found.items ++ map (way_of l.cut l.process) (drop l.link-index l.away)
    ≡ map (way_of l.cut l.process) l.away
