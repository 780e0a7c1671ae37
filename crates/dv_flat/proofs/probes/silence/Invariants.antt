use Rattle.std.proofs.Common.{◌≡◌, ◌++◌, drop}
use Rattle.dv_syntax.specs.Trees.{file_of}
use Rattle.dv_tree.specs.Instances.{instances}
use Rattle.dv_flat.specs.Probes.{silence}
use Rattle.dv_flat.proofs.probes.silence.Given as goal

abbrev pub invariant-loop-component : goal.invariant-loop-component
invariant-loop-component l =
    l.sent.items ++ silence (drop l.component (instances (file_of l.tree.file))) ≡ silence (instances (file_of l.tree.file))
