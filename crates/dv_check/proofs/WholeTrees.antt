-- A tree that is no deeper than its levels is whole: more levels change nothing.
use Rattle.std.proofs.Common.{◌≡◌, ℕ, zero, suc, ◌≤◌, List, [], ◌∷◌, refl, sym, ap, ◌∙◌, subst, Option, Some, None, arith}
use Rattle.dv_syntax.specs.declared.tree.Name.{Name}
use Rattle.dv_syntax.specs.declared.tree.Part.{Part}
use Rattle.dv_syntax.specs.Trees.{ModelTree, AtomicModel, CoupledModel, CoupledTree, FileTree}
use Rattle.dv_check.specs.Limits.{greatest_depth}
use Rattle.dv_check.specs.Names.{model_named}
use Rattle.dv_check.specs.Refusals.{refusal_of}
use Rattle.dv_check.specs.Tree.{PartTree, CoupledPart, depth_of, parts_by, parts_to, tree_of, with_part}
use Rattle.dv_check.proofs.CheckedFiles.{file_accepted}

-- the parts inside a model are the same by both functions where they are less deep than a level
abbrev AreSame : (CoupledTree → PartTree) → (CoupledTree → PartTree) → ℕ → Type 0
AreSame inside more levels = (m : CoupledTree) → depth_of (inside m) ≤ levels → more m ≡ inside m

module _ (inside more : CoupledTree → PartTree) (levels : ℕ) (same : AreSame inside more levels) where
  same_part : (name : Name) (o : Option ModelTree) (rest all : PartTree) → depth_of (with_part inside name o rest) ≤ suc levels
      → (depth_of rest ≤ suc levels → all ≡ rest) → with_part more name o all ≡ with_part inside name o rest
  same_part name None rest all flat later = later flat
  same_part name (Some (AtomicModel m)) rest all flat later = ap (with_part inside name (Some (AtomicModel m))) (later flat)
  same_part name (Some (CoupledModel m)) rest all flat later =
      let here : depth_of (inside m) ≤ levels = omega (arith, flat) in
      let behind : depth_of rest ≤ suc levels = omega (arith, flat) in
      ap (λ t. CoupledPart name m t all) (same m here) ∙ ap (λ t. CoupledPart name m (inside m) t) (later behind)

  same_parts : (models : List ModelTree) (parts : List Part) → depth_of (parts_by inside models parts) ≤ suc levels
      → parts_by more models parts ≡ parts_by inside models parts
  same_parts models [] flat = refl
  same_parts models (p ∷ parts) flat =
      same_part p.name (model_named p.model.number models) (parts_by inside models parts) (parts_by more models parts) flat
      (same_parts models parts)

-- more levels than the depth
whole : (models : List ModelTree) (levels more : ℕ) → levels ≤ more → AreSame (parts_to levels models) (parts_to more models) levels
whole models zero more below m flat = absurd (omega (arith, flat))
whole models (suc levels) zero below m flat = absurd (omega (arith, below))
whole models (suc levels) (suc more) below m flat =
    let fewer : levels ≤ more = omega (arith, below) in
    same_parts (parts_to levels models) (parts_to more models) levels (whole models levels more fewer) models m.parts flat

same_model : (a b : CoupledTree) → Some (CoupledModel a) ≡ Some (CoupledModel b) → a ≡ b
same_model a b e = cc

pub tree_whole : (f : FileTree) (m : CoupledTree) (levels : ℕ) → refusal_of f ≡ None
    → model_named f.root.number f.models ≡ Some (CoupledModel m) → greatest_depth ≤ levels → parts_to levels f.models m ≡ tree_of f.models m
tree_whole f m levels e named deep =
    let accepted = file_accepted f e in
    let same = same_model accepted.root m (sym accepted.named ∙ named) in
    let P : CoupledTree → Type 0 = λ r. depth_of (tree_of f.models r) ≤ greatest_depth in
    whole f.models greatest_depth levels deep m (subst P same accepted.flat)
