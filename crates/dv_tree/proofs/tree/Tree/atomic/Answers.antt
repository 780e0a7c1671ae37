use Rattle.std.proofs.Common.{◌≡◌, arith, ap, ◌∙◌}
use Rattle.std.specs.Prelude.{Some}
use Rattle.dv_syntax.specs.Trees.{atomic_of}
use Rattle.dv_syntax.specs.declared.tree.Model.TheVariants as model
use Rattle.dv_tree.specs.Instances.{Instance}
use Rattle.dv_tree.proofs.Named.{found, within_components, within_models, index_read, model_read, view_shown}
use Rattle.dv_tree.proofs.tree.Tree.atomic.Goals as goal

pub index-requires : goal.index-requires
index-requires c =
    let f = found c.self.inside.checked.now c.self.inside.reached.models.items c.self.inside.reached.indices.items _ _ _ _ c.self.view_is
    c.self.invariant.6 c.self.invariant.7 c.self.invariant.3 c.self.invariant.2 c.requires in
    omega (arith, within_components f, c.self.inside.components.ok.0)

pub index-requires-2 : goal.index-requires-2
index-requires-2 c =
    let f = found c.self.inside.checked.now c.self.inside.reached.models.items c.self.inside.reached.indices.items _ _ _ _ c.self.view_is
    c.self.invariant.6 c.self.invariant.7 c.self.invariant.3 c.self.invariant.2 c.requires in
    let at = index_read f _ _ c.index.ensures c.model-index.ensures in
    omega (arith, at, within_models f, c.self.inside.reached.models.ok.0)

pub unreachable-requires : goal.unreachable-requires
unreachable-requires c =
    let f = found c.self.inside.checked.now c.self.inside.reached.models.items c.self.inside.reached.indices.items _ _ _ _ c.self.view_is
    c.self.invariant.6 c.self.invariant.7 c.self.invariant.3 c.self.invariant.2 c.requires in
    let at = index_read f _ _ c.index.ensures c.model-index.ensures in
    let is : c.index-2.result.now.now ≡ model.Atomic f.atomic =
    model_read f c.model-index.result c.index-2.result.now at c.index-2.ensures in
    cc

pub returns : goal.returns
returns c =
    let f = found c.self.inside.checked.now c.self.inside.reached.models.items c.self.inside.reached.indices.items _ _ _ _ c.self.view_is
    c.self.invariant.6 c.self.invariant.7 c.self.invariant.3 c.self.invariant.2 c.requires in
    let at = index_read f _ _ c.index.ensures c.model-index.ensures in
    let is : c.index-2.result.now.now ≡ model.Atomic f.atomic =
    model_read f c.model-index.result c.index-2.result.now at c.index-2.ensures in
    let same : f.atomic ≡ c.in-Atomic.model = cc in
    view_shown f (λ (i : Instance). i.model) ∙ ap (λ m. Some (atomic_of m)) same
