use Rattle.std.proofs.Common.{arith, ap, sym, ◌∙◌}
use Rattle.std.specs.Prelude.{slice_get}
use Rattle.std.proofs.lemmas.Option.{slice_get_within}
use Rattle.dv_syntax.specs.Trees.{AtomicModel, file_of}
use Rattle.dv_tree.specs.Instances.{Instance}
use Rattle.dv_tree.specs.Tables.{Source}
use Rattle.dv_tree.proofs.Named.{found, within_components, within_indices, index_read, text_index_read, text_shown, view_shown}
use Rattle.dv_tree.proofs.tree.Tree.model_index.Goals as goal

pub index-requires : goal.index-requires
index-requires c =
    let f = found c.self.inside.checked.now c.self.inside.reached.models.items c.self.inside.reached.indices.items _ _ _ _ c.self.view_is
    c.self.invariant.6 c.self.invariant.7 c.self.invariant.3 c.self.invariant.2 c.requires in
    omega (arith, within_components f, c.self.inside.components.ok.0)

pub index-requires-2 : goal.index-requires-2
index-requires-2 c =
    let f = found c.self.inside.checked.now c.self.inside.reached.models.items c.self.inside.reached.indices.items _ _ _ _ c.self.view_is
    c.self.invariant.6 c.self.invariant.7 c.self.invariant.3 c.self.invariant.2 c.requires in
    let at = index_read f _ _ c.index.ensures c.model-index.ensures in
    omega (arith, at, within_indices f, c.self.inside.reached.indices.ok.0)

pub returns-clause-within : goal.returns-clause-within
returns-clause-within c =
    let f = found c.self.inside.checked.now c.self.inside.reached.models.items c.self.inside.reached.indices.items _ _ _ _ c.self.view_is
    c.self.invariant.6 c.self.invariant.7 c.self.invariant.3 c.self.invariant.2 c.requires in
    let at = index_read f _ _ c.index.ensures c.model-index.ensures in
    let n = c.index-2.result.now in
    let there =
    ap (λ (s : Source). slice_get (file_of s.file).models n) (sym c.self.view_is)
    ∙ text_shown f n (text_index_read f c.model-index.result n at c.index-2.ensures) in
    slice_get_within (file_of c.args.self.now.file).models n _ (there ∙ view_shown f (λ (i : Instance). AtomicModel i.model))

pub returns-clause-model : goal.returns-clause-model
returns-clause-model c =
    let f = found c.self.inside.checked.now c.self.inside.reached.models.items c.self.inside.reached.indices.items _ _ _ _ c.self.view_is
    c.self.invariant.6 c.self.invariant.7 c.self.invariant.3 c.self.invariant.2 c.requires in
    let at = index_read f _ _ c.index.ensures c.model-index.ensures in
    let n = c.index-2.result.now in
    let there =
    ap (λ (s : Source). slice_get (file_of s.file).models n) (sym c.self.view_is)
    ∙ text_shown f n (text_index_read f c.model-index.result n at c.index-2.ensures) in
    sym there
