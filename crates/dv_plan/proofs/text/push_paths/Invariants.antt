use Rattle.std.proofs.Common.{◌≡◌, ◌++◌, ◌-◌, string_bytes}
use Rattle.dv_plan.specs.Texts.{paths_text}
use Rattle.dv_plan.proofs.text.push_paths.Given as goal

abbrev pub invariant-loop-component : goal.invariant-loop-component
invariant-loop-component g l =
    string_bytes l.text ++ paths_text (g.N.Names.names l.names) l.component (l.count - l.component)
    ≡ string_bytes l.initial.text ++ paths_text (g.N.Names.names l.names) 0 l.count
