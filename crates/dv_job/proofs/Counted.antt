-- The components that are counted in a checked file are its instances.
use Rattle.std.proofs.Common.{◌≡◌, [], length, sym, ap, ◌∙◌}
use Rattle.std.specs.Prelude.{Option}
use Rattle.dv_syntax.specs.Trees.{FileTree, ModelTree}
use Rattle.dv_check.specs.CheckedFiles.{IsCheckedFile}
use Rattle.dv_check.specs.Tree.{component_count, components_at, components_of}
use Rattle.dv_tree.specs.Instances.{coupled_model, instances, root_of, tree_in}
use Rattle.dv_tree.proofs.Named.{length-instances_in}

pub components_are_instances : (f : FileTree) → IsCheckedFile f → components_of f ≡ length (instances f)
components_are_instances f h =
    ap (components_at f.models) h.named
    ∙ ap (λ (o : Option ModelTree). component_count (tree_in f.models (coupled_model o))) (sym h.named)
    ∙ sym (length-instances_in [] (tree_in f.models (root_of f)))
