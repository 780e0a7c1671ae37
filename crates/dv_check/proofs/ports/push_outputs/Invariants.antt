use Rattle.std.proofs.Common.{◌≡◌, ◌++◌, map, drop}
use Rattle.dv_syntax.specs.declared.tree.Declaration.TheVariants.{Out}
use Rattle.dv_check.proofs.ports.push_outputs.Given as goal

abbrev pub invariant-loop-output : goal.invariant-loop-output
invariant-loop-output l = l.ports.items ++ map Out (drop l.output-index l.outputs) ≡ l.initial.ports.items ++ map Out l.outputs
