-- The tree of a coupled model: its parts, each with the parts inside it.
use Rattle.std.specs.Prelude.{ℕ, zero, suc, ◌+◌, max, List, [], ◌∷◌, Option, Some, None}
use Rattle.dv_syntax.specs.Trees.{ModelTree, AtomicModel, CoupledModel, AtomicTree, CoupledTree, FileTree}
use Rattle.dv_syntax.specs.declared.tree.Name.{Name}
use Rattle.dv_syntax.specs.declared.tree.Part.{Part}
use Rattle.dv_check.specs.Names.{model_named}
use Rattle.dv_check.specs.Limits.{greatest_depth}

-- parts in the order of the text: none; or one and the rest, which is atomic, or coupled with its own parts inside
pub data PartTree : Type 0 where
  NoParts : PartTree
  AtomicPart : (name : Name) → (model : AtomicTree) → (rest : PartTree) → PartTree
  CoupledPart : (name : Name) → (model : CoupledTree) → (inside rest : PartTree) → PartTree

-- a part by its model, before the rest; a part whose model is unknown is left out
abbrev pub with_part : (CoupledTree → PartTree) → Name → Option ModelTree → PartTree → PartTree
with_part inside name None rest = rest
with_part inside name (Some (AtomicModel m)) rest = AtomicPart name m rest
with_part inside name (Some (CoupledModel m)) rest = CoupledPart name m (inside m) rest

abbrev pub parts_by : (CoupledTree → PartTree) → List ModelTree → List Part → PartTree
parts_by inside models [] = NoParts
parts_by inside models (p ∷ parts) = with_part inside p.name (model_named p.model.number models) (parts_by inside models parts)

-- the parts of a coupled model, down to a number of levels
abbrev pub parts_to : ℕ → List ModelTree → CoupledTree → PartTree
parts_to zero models m = NoParts
parts_to (suc levels) models m = parts_by (parts_to levels models) models m.parts

-- The parts of a model, down to the greatest depth. A model below it appears without its parts: its depth is too great.
abbrev pub tree_of : List ModelTree → CoupledTree → PartTree
tree_of models m = parts_to greatest_depth models m

-- how deep coupled models are nested, with the model of these parts
abbrev pub depth_of : PartTree → ℕ
depth_of NoParts = 1
depth_of (AtomicPart name m rest) = depth_of rest
depth_of (CoupledPart name m inside rest) = max (suc (depth_of inside)) (depth_of rest)

-- the components: the atomic models inside
abbrev pub component_count : PartTree → ℕ
component_count NoParts = 0
component_count (AtomicPart name m rest) = suc (component_count rest)
component_count (CoupledPart name m inside rest) = component_count inside + component_count rest

-- the instances: the atomic and coupled models inside
abbrev pub instance_count : PartTree → ℕ
instance_count NoParts = 0
instance_count (AtomicPart name m rest) = suc (instance_count rest)
instance_count (CoupledPart name m inside rest) = suc (instance_count inside + instance_count rest)

-- the components of a file: those inside its root
abbrev pub components_at : List ModelTree → Option ModelTree → ℕ
components_at models (Some (CoupledModel m)) = component_count (tree_of models m)
components_at models (Some (AtomicModel m)) = 0
components_at models None = 0

abbrev pub components_of : FileTree → ℕ
components_of f = components_at f.models (model_named f.root.number f.models)
