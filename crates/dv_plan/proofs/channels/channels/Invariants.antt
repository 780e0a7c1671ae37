use Rattle.std.proofs.Common.{◌≡◌, ◌++◌, ◌-◌, map}
use Rattle.dv_proc.specs.Channels.{meant_channel}
use Rattle.dv_plan.specs.Keys.{all_sent, sends}
use Rattle.dv_plan.proofs.channels.channels.Given as goal

abbrev pub invariant-loop-source : goal.invariant-loop-source
invariant-loop-source l =
    map meant_channel l.found.items
    ++ all_sent (sends l.processes (map (λ list. list.items) l.pairs)) l.processes l.source (l.processes - l.source)
    ≡ all_sent (sends l.processes (map (λ list. list.items) l.pairs)) l.processes 0 l.processes
