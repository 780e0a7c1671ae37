use Rattle.std.proofs.Common.{◌≡◌, [], drop, map}
use Rattle.dv_syntax.specs.Trees.{phases_of}
use Rattle.dv_eval.specs.Scope.{phases_in, with_names}
use Rattle.dv_eval.proofs.scope.few_phase_names.Given as goal

abbrev pub invariant-loop-item : goal.invariant-loop-item
invariant-loop-item l =
    with_names l.names.items (phases_in (map phases_of (drop l.item-index l.phases)))
    ≡ with_names [] (phases_in (map phases_of l.phases))
