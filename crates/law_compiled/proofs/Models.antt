-- The models of components are models of their text.
use Rattle.std.proofs.Common.{ℕ, zero, suc, Bool, true, false, cond, eqb, List, [], ◌∷◌, ◌++◌, Option, Some, None, IfSome}
use Rattle.std.specs.List.{AllByRecursion}
use Rattle.dv_syntax.specs.Trees.{AtomicModel, CoupledModel, CoupledTree, FileTree, ModelTree}
use Rattle.dv_syntax.specs.declared.tree.Name.{Name}
use Rattle.dv_syntax.specs.declared.tree.Part.{Part}
use Rattle.dv_check.specs.Names.{model_named, name_of_model}
use Rattle.dv_check.specs.Tree.{AtomicPart, CoupledPart, NoParts, PartTree, parts_by, parts_to, with_part}
use Rattle.dv_check.specs.Limits.{greatest_depth}
use Rattle.dv_tree.specs.Instances.{Instance, instances, instances_in, root_of, tree_in}

all_append : {X : Type 0} (P : X → Type 0) (xs ys : List X) → AllByRecursion P xs → AllByRecursion P ys
    → AllByRecursion P (xs ++ ys)
all_append P [] ys here there = there
all_append P (x ∷ xs) ys here there = (here.0, all_append P xs ys here.1 there)

module _ (P : ModelTree → Type 0) where
  -- so it is of all atomic parts of a tree
  abbrev AllParts : PartTree → Type 0
  AllParts NoParts = Unit {0}
  AllParts (AtomicPart name m rest) = P (AtomicModel m) × AllParts rest
  AllParts (CoupledPart name m inside rest) = AllParts inside × AllParts rest

  chosen : (b : Bool) (m : ModelTree) (o : Option ModelTree) → P m → IfSome o P → IfSome (cond b (Some m) o) P
  chosen true m o here later = here
  chosen false m o here later = later

  named : (number : ℕ) (models : List ModelTree) → AllByRecursion P models → IfSome (model_named number models) P
  named number [] all = tt
  named number (m ∷ models) all =
      chosen (eqb (name_of_model m).number number) m (model_named number models) all.0 (named number models all.1)

  one_part : (inside : CoupledTree → PartTree) → ((m : CoupledTree) → AllParts (inside m)) → (name : Name) (o : Option ModelTree)
      (rest : PartTree) → IfSome o P → AllParts rest → AllParts (with_part inside name o rest)
  one_part inside below name None rest is others = others
  one_part inside below name (Some (AtomicModel m)) rest is others = (is, others)
  one_part inside below name (Some (CoupledModel m)) rest is others = (below m, others)

  all_parts : (inside : CoupledTree → PartTree) → ((m : CoupledTree) → AllParts (inside m)) → (models : List ModelTree)
      → AllByRecursion P models → (parts : List Part) → AllParts (parts_by inside models parts)
  all_parts inside below models all [] = tt
  all_parts inside below models all (p ∷ parts) =
      one_part inside below p.name (model_named p.model.number models) (parts_by inside models parts)
      (named p.model.number models all) (all_parts inside below models all parts)

  parts_down : (levels : ℕ) (models : List ModelTree) → AllByRecursion P models → (m : CoupledTree)
      → AllParts (parts_to levels models m)
  parts_down zero models all m = tt
  parts_down (suc levels) models all m = all_parts (parts_to levels models) (parts_down levels models all) models all m.parts

  -- so it is of the models of components
  abbrev AllModels : List Instance → Type 0
  AllModels is = AllByRecursion (λ (i : Instance). P (AtomicModel i.model)) is

  in_tree : (path : List ℕ) (t : PartTree) → AllParts t → AllModels (instances_in path t)
  in_tree path NoParts all = tt
  in_tree path (AtomicPart name m rest) all = (all.0, in_tree path rest all.1)
  in_tree path (CoupledPart name m inside rest) all =
      let deeper = path ++ name.number ∷ [] in
      all_append (λ (i : Instance). P (AtomicModel i.model)) (instances_in deeper inside) (instances_in path rest)
      (in_tree deeper inside all.0) (in_tree path rest all.1)

  in_root : (models : List ModelTree) (root : Option CoupledTree) → AllByRecursion P models
      → AllModels (instances_in [] (tree_in models root))
  in_root models None all = tt
  in_root models (Some m) all = in_tree [] (parts_to greatest_depth models m) (parts_down greatest_depth models all m)

  -- what is so of all models of a text is so of the models of its components
  pub models_of_components : (f : FileTree) → AllByRecursion P f.models → AllModels (instances f)
  models_of_components f all = in_root f.models (root_of f) all
