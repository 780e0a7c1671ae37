use Rattle.dv_syntax.specs.Trees.{atomic_of, file_of}
use Rattle.dv_tree.specs.Instances.{instances}
use Rattle.dv_coded.proofs.Named.{component_compilable}
use Rattle.dv_coded.proofs.Standing.{scope_at}
use Rattle.dv_coded.proofs.components.member.Goals as goal

pub start-requires-clause-scope : goal.start-requires-clause-scope
start-requires-clause-scope c =
    scope_at (instances (file_of c.args.tree.now.file)) c.args.component (atomic_of c.atomic.result.now) c.scope.result.now
    c.atomic.ensures c.scope.ensures

pub start-requires-clause-compilable : goal.start-requires-clause-compilable
start-requires-clause-compilable c =
    component_compilable (file_of c.args.tree.now.file) c.args.component (atomic_of c.atomic.result.now) c.requires.compilable
    c.atomic.ensures

pub start-requires-clause-programs : goal.start-requires-clause-programs
start-requires-clause-programs c = c.requires.programs (atomic_of c.atomic.result.now) c.atomic.ensures
