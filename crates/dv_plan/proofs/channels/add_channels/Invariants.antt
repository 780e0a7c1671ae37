use Rattle.std.proofs.Common.{◌≡◌, ◌++◌, ◌-◌, map}
use Rattle.dv_proc.specs.Channels.{meant_channel}
use Rattle.dv_plan.specs.Keys.{sends, sent_by}
use Rattle.dv_plan.proofs.channels.add_channels.Given as goal

abbrev pub invariant-loop-target : goal.invariant-loop-target
invariant-loop-target l =
    map meant_channel l.found.items
    ++ sent_by (sends l.processes (map (λ list. list.items) l.pairs)) l.source l.target (l.processes - l.target)
    ≡ map meant_channel l.fn.found.items ++ sent_by (sends l.processes (map (λ list. list.items) l.pairs)) l.source 0 l.processes
