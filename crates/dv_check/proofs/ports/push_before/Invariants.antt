use Rattle.std.proofs.Common.{◌≡◌, ◌++◌, map, drop}
use Rattle.dv_syntax.specs.declared.tree.Declaration.TheVariants.{Out}
use Rattle.dv_check.specs.Ports.{names_before, names_from}
use Rattle.dv_check.proofs.ports.push_before.Given as goal

abbrev pub invariant-loop-index : goal.invariant-loop-index
invariant-loop-index l =
    (l.ports.items ++ map Out (names_before l.offset (drop l.index l.outputs))
    ≡ l.initial.ports.items ++ map Out (names_before l.offset l.outputs))
    × (names_from l.offset (drop l.index l.outputs) ≡ names_from l.offset l.outputs)
