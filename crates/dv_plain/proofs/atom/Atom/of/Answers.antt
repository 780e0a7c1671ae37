use Rattle.dv_syntax.specs.Trees.{atomic_of, file_of}
use Rattle.dv_tree.specs.Instances.{instances}
use Rattle.dv_plain.proofs.Steps.{scope-at}
use Rattle.dv_plain.proofs.atom.Atom.of.Goals as goal

pub invariant_of-result : goal.invariant_of-result
invariant_of-result c = record {
  of_model =
      scope-at (instances (file_of c.args.tree.now.file)) c.args.component
      (atomic_of c.atomic.result.now) c.scope.result.now c.atomic.ensures c.scope.ensures;
}
