use Rattle.std.proofs.Common.{◌≡◌, ◌++◌, ◌-◌, map, string_bytes}
use Rattle.dv_bag.specs.Responses.{ticks_of}
use Rattle.dv_plan.specs.Texts.{processes_text}
use Rattle.dv_plan.proofs.text.push_processes.Given as goal

abbrev pub invariant-loop-process : goal.invariant-loop-process
invariant-loop-process g l =
    string_bytes l.text
    ++ processes_text (g.N.Names.names l.names) l.groups (map ticks_of l.responses) l.process (l.groups.processes - l.process)
    ≡ string_bytes l.initial.text ++ processes_text (g.N.Names.names l.names) l.groups (map ticks_of l.responses) 0 l.groups.processes
