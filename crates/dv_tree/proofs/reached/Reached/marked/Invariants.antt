use Rattle.std.proofs.Common.{◌≡◌, ◌++◌, drop, map}
use Rattle.std.specs.Prelude.{Some, slice_get}
use Rattle.dv_syntax.specs.Trees.{model_of}
use Rattle.dv_tree.specs.Reached.{borrowed_models, marked}
use Rattle.dv_tree.proofs.reached.Reached.marked.Given as goal

abbrev pub invariant-loop-index : goal.invariant-loop-index
invariant-loop-index l = record {
  models : borrowed_models l.reached.models.items ++ marked (drop l.index l.marks) (map model_of (drop l.index l.models))
      ≡ marked l.marks (map model_of l.models);
  indices : map (slice_get (map model_of l.models)) l.reached.indices.items ≡ map Some (borrowed_models l.reached.models.items);
}
