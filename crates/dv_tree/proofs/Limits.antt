-- A text that breaks no rule has few components and few ports.
use Rattle.std.proofs.Common.{◌≡◌, ◌≤◌, List, [], ◌∷◌, length, refl, subst, sym, ◌∙◌, arith}
use Rattle.std.specs.Prelude.{Option, Some, None}
use Rattle.std.proofs.lemmas.List.{length-map, length-set, length-replicate}
use Rattle.dv_syntax.specs.Trees.{ModelTree, CoupledTree, FileTree}
use Rattle.dv_syntax.specs.declared.tree.Name.{Name}
use Rattle.dv_bag.specs.Bag.{Counts}
use Rattle.dv_check.specs.CheckedFiles.{IsCheckedFile}
use Rattle.dv_check.specs.Tree.{component_count}
use Rattle.dv_check.specs.Limits.{greatest_components, greatest_names}
use Rattle.dv_tree.specs.Instances.{coupled_model, instances, inputs_in, outputs_in, root_inputs, root_outputs, root_of, tree_in}
use Rattle.dv_tree.specs.Routing.{Arrived, with_values, with_coupling, along, along_all, nothing_at, leaving, leaves, leaves_root}
use Rattle.dv_tree.specs.declared.couplings.Target.{Target}
use Rattle.dv_tree.specs.declared.couplings.Target.TheVariants.{Own, OfPart}
use Rattle.dv_tree.specs.declared.couplings.Coupling.{Coupling}
use Rattle.dv_tree.proofs.Named.{length-instances_in}

few_in_tree : (f : FileTree) → IsCheckedFile f → component_count (tree_in f.models (root_of f)) ≤ greatest_components
few_in_tree f h =
    let Few : Option ModelTree → Type 0 = λ o. component_count (tree_in f.models (coupled_model o)) ≤ greatest_components in
    subst Few (sym h.named) h.few_components

pub few_components : (f : FileTree) → IsCheckedFile f → length (instances f) ≤ greatest_components
few_components f h = omega (arith, length-instances_in [] (tree_in f.models (root_of f)), few_in_tree f h)

pub few_inputs : (f : FileTree) → IsCheckedFile f → length (root_inputs f) ≤ greatest_names
few_inputs f h =
    let Few : Option ModelTree → Type 0 = λ o. length (inputs_in (coupled_model o)) ≤ greatest_names in
    omega (arith, length-map (inputs_in (root_of f)) (λ (n : Name). n.number), subst Few (sym h.named) (omega (arith, h.coupled.few_ports)))

few_outputs : (f : FileTree) → IsCheckedFile f → length (root_outputs f) ≤ greatest_names
few_outputs f h =
    let Few : Option ModelTree → Type 0 = λ o. length (outputs_in (coupled_model o)) ≤ greatest_names in
    omega (
      arith,
      length-map (outputs_in (root_of f)) (λ (n : Name). n.number),
      subst Few (sym h.named) (omega (arith, h.coupled.few_ports)),
    )

length-with_values : (t : Target) (more : Counts) (a : Arrived) → length (with_values t more a).own ≡ length a.own
length-with_values (Own port) more a = length-set a.own port _
length-with_values (OfPart part port) more a = refl

length-along : (couplings : List Coupling) (bags : List Counts) (a : Arrived) → length (along couplings bags a).own ≡ length a.own
length-along [] bags a = refl
length-along (c ∷ couplings) bags a = length-along couplings bags (with_coupling bags a c) ∙ length-with_values c.target _ a

length-along_all : (couplings : List (List Coupling)) (bags : List (List Counts)) (a : Arrived) →
    length (along_all couplings bags a).own ≡ length a.own
length-along_all [] bags a = refl
length-along_all (cs ∷ couplings) [] a = refl
length-along_all (cs ∷ couplings) (b ∷ bags) a = length-along_all couplings bags (along cs b a) ∙ length-along cs b a

length-leaves_root : (models : List ModelTree) (root : Option CoupledTree) (sent : List (List Counts)) →
    length (leaves_root models root sent) ≡ length (outputs_in root)
length-leaves_root models None sent = refl
length-leaves_root models (Some m) sent =
    length-along_all _ (leaving models (tree_in models (Some m)) sent) (nothing_at models m) ∙ length-replicate (length m.outputs) []

-- what leaves has a bag for each output
pub length-leaves : (f : FileTree) (sent : List (List Counts)) → length (leaves f sent) ≡ length (root_outputs f)
length-leaves f sent =
    length-leaves_root f.models (root_of f) sent ∙ sym (length-map (outputs_in (root_of f)) (λ (n : Name). n.number))

pub few_leave : (f : FileTree) (sent : List (List Counts)) → IsCheckedFile f → length (leaves f sent) ≤ greatest_names
few_leave f sent h = omega (arith, length-leaves f sent, few_outputs f h)
