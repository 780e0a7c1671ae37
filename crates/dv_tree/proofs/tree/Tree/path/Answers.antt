use Rattle.std.proofs.Common.{arith, ap, sym, ◌∙◌, List, ℕ}
use Rattle.std.specs.Prelude.{Some}
use Rattle.dv_tree.specs.Instances.{Instance}
use Rattle.dv_tree.proofs.Named.{found, within_components, component_read, view_shown}
use Rattle.dv_tree.proofs.tree.Tree.path.Goals as goal

pub index-requires : goal.index-requires
index-requires c =
    let f = found c.self.inside.checked.now c.self.inside.reached.models.items c.self.inside.reached.indices.items _ _ _ _ c.self.view_is
    c.self.invariant.6 c.self.invariant.7 c.self.invariant.3 c.self.invariant.2 c.requires in
    omega (arith, within_components f, c.self.inside.components.ok.0)

pub returns : goal.returns
returns c =
    let f = found c.self.inside.checked.now c.self.inside.reached.models.items c.self.inside.reached.indices.items _ _ _ _ c.self.view_is
    c.self.invariant.6 c.self.invariant.7 c.self.invariant.3 c.self.invariant.2 c.requires in
    view_shown f (λ (i : Instance). i.path)
    ∙ ap Some (sym (c.path.ensures ∙ ap (λ (x : List ℕ × ℕ). x.0) (component_read f c.index.result.now c.index.ensures)))
