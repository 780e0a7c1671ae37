use Rattle.std.proofs.Common.{◌≡◌, ◌∙◌, ap, sym, map}
use Rattle.dv_syntax.specs.Trees.{file_of}
use Rattle.dv_tree.specs.Reached.{borrowed_models, text_of_reached}
use Rattle.dv_eval.specs.Scope.{index_of}
use Rattle.dv_check.specs.Names.{numbers_of}
use Rattle.dv_tree.specs.Instances.{inputs_in, outputs_in}
use Rattle.dv_tree.specs.Tables.{levels_of, model_names, scope_of_model}
use Rattle.dv_tree.specs.Nodes.{components_of_root, root_level}
use Rattle.dv_tree.proofs.Resolved.{root_made}
use Rattle.dv_tree.proofs.tree.Tree.of.Goals as goal

pub invariant_of-result : goal.invariant_of-result
invariant_of-result c =
    let f = file_of c.args.checked.now.file in
    let reached = borrowed_models c.in_ok-reached.reached.models.items in
    let g = text_of_reached f reached in
    let names = c.in_ok-names.names in
    let root = c.index_of-root.result in
    let names_are : names ≡ model_names reached =
    c.in_ok-names.ensures
    ∙ (c.from_vec.ensures.items ∙ (c.in_ok-models.ensures ∙ ap (λ x. model_names (borrowed_models x)) c.deref.ensures.value)) in
    let scopes_are = c.in_ok-scopes.ensures ∙ ap (λ x. map scope_of_model (borrowed_models x)) c.deref-2.ensures.value in
    let levels_are = c.in_ok-levels.ensures ∙ ap (λ x. levels_of (borrowed_models x)) c.deref-3.ensures.value in
    let root_is =
    ap (λ x. root_level x root) levels_are
    ∙ (ap (root_level (levels_of reached)) (c.index_of-root.ensures ∙ ap (index_of f.root.number) names_are) ∙ root_made g) in
    let components_are =
    c.in_ok-components.ensures
    ∙ (ap (λ x. components_of_root x (root_level x root)) (c.deref-5.ensures.value ∙ levels_are)
    ∙ ap (components_of_root (levels_of reached)) (sym (ap (λ x. root_level x root) levels_are) ∙ root_is)) in (
      levels_are,
      root_is,
      scopes_are,
      components_are,
      c.in_ok-inputs.ensures ∙ ap numbers_of (c.root_inputs.ensures ∙ ap inputs_in c.root-coupled.ensures),
      c.in_ok-outputs.ensures ∙ ap numbers_of (c.root_outputs.ensures ∙ ap outputs_in c.root-coupled.ensures),
      c.in_ok-reached.ensures.reached,
      c.in_ok-reached.ensures.indices,
    )
