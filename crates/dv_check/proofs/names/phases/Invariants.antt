use Rattle.std.proofs.Common.{◌≡◌, ◌++◌, map, drop}
use Rattle.dv_syntax.specs.Trees.{phases_of}
use Rattle.dv_eval.specs.Scope.{phases_in}
use Rattle.dv_check.proofs.names.phases.Given as goal

abbrev pub invariant-loop-item : goal.invariant-loop-item
invariant-loop-item l = l.names.items ++ phases_in (map phases_of (drop l.item-index l.items)) ≡ phases_in (map phases_of l.items)
