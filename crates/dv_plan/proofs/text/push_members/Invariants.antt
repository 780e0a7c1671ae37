use Rattle.std.proofs.Common.{◌≡◌, ◌++◌, drop, string_bytes}
use Rattle.dv_plan.specs.Texts.{members_text}
use Rattle.dv_plan.proofs.text.push_members.Given as goal

abbrev pub invariant-loop-index : goal.invariant-loop-index
invariant-loop-index g l =
    string_bytes l.text ++ members_text (g.N.Names.names l.names) l.index (drop l.index l.members)
    ≡ string_bytes l.initial.text ++ members_text (g.N.Names.names l.names) 0 l.members
