use Rattle.std.proofs.Common.{◌≡◌, refl, ap, sym, ◌∙◌, subst, arith}
use Rattle.std.specs.Prelude.{Some}
use Rattle.dv_syntax.specs.Trees.{AtomicTree, atomic_of, file_of}
use Rattle.dv_tree.specs.Instances.{instances}
use Rattle.dv_coded.specs.Components.{HasModelAt}
use Rattle.dv_coded.proofs.Lists.{none-else, read-there}
use Rattle.dv_coded.proofs.Standing.{added_there, compilable_at, kept_by_adding, known_with, model_there, scope_at}
use Rattle.dv_coded.proofs.models.Models.of_component.Goals as goal

pub returns-in-Some-clause-model : goal.returns-in-Some-clause-model
returns-in-Some-clause-model c = λ m at.
    c.requires.known.known c.model_index-index.result c.in-Some.known m
    (read-there c.args.self.now.indices.items c.model_index-index.result c.index.result.now
    (omega (arith, c.model_index-index.ensures.within, c.requires.known.count)) c.index.ensures ∙ ap Some c.in-Some.is)
    (model_there (file_of c.args.tree.now.file).models (instances (file_of c.args.tree.now.file)) c.args.component
    c.model_index-index.result m c.model_index-index.ensures.model at)

pub add-requires-clause-scope : goal.add-requires-clause-scope
add-requires-clause-scope c =
    scope_at (instances (file_of c.args.tree.now.file)) c.args.component (atomic_of c.atomic.result.now) c.scope.result.now
    c.atomic.ensures c.scope.ensures

pub add-requires-clause-compilable : goal.add-requires-clause-compilable
add-requires-clause-compilable c =
    let m = atomic_of c.atomic.result.now in
    compilable_at (file_of c.args.tree.now.file).models c.model_index-index.result m c.requires.compilable
    (model_there (file_of c.args.tree.now.file).models (instances (file_of c.args.tree.now.file)) c.args.component
    c.model_index-index.result m c.model_index-index.ensures.model c.atomic.ensures)

pub returns-clause-known : goal.returns-clause-known
returns-clause-known c =
    let m = atomic_of c.atomic.result.now in
    known_with m c.args.self.now c.add.new.self c.in_ok-added.added c.in_ok-added.ensures (file_of c.args.tree.now.file).models _
    c.model_index-index.result c.requires.known
    (model_there (file_of c.args.tree.now.file).models (instances (file_of c.args.tree.now.file)) c.args.component
    c.model_index-index.result m c.model_index-index.ensures.model c.atomic.ensures)
    (read-there c.args.self.now.indices.items c.model_index-index.result c.index.result.now
    (omega (arith, c.model_index-index.ensures.within, c.requires.known.count)) c.index.ensures
    ∙ ap Some (none-else c.index.result.now c.in_default.not-Some)) refl refl refl

pub returns-clause-model : goal.returns-clause-model
returns-clause-model c = λ m at.
    let first = atomic_of c.atomic.result.now in
    let both : Some first ≡ Some m = sym c.atomic.ensures ∙ at in
    let same : first ≡ m = cc in
    subst (λ (t : AtomicTree). HasModelAt c.add.new.self c.in_ok-added.added t) same
    (added_there first c.args.self.now c.add.new.self c.in_ok-added.added c.in_ok-added.ensures c.requires.known.both)

pub returns-clause-kept : goal.returns-clause-kept
returns-clause-kept c =
    kept_by_adding (atomic_of c.atomic.result.now) c.args.self.now c.add.new.self c.in_ok-added.added c.in_ok-added.ensures
