-- The components of a text: the atomic models in the tree of its root, in the order of the text; those of a coupled part come in its place.
use Rattle.std.specs.Prelude.{ℕ, List, [], ◌∷◌, ◌++◌, Option, Some, None}
use Rattle.dv_syntax.specs.Trees.{ModelTree, CoupledModel, AtomicTree, CoupledTree, FileTree}
use Rattle.dv_syntax.specs.declared.tree.Name.{Name}
use Rattle.dv_check.specs.Names.{model_named, numbers_of}
use Rattle.dv_check.specs.Tree.{PartTree, NoParts, AtomicPart, CoupledPart, tree_of}

-- a component: the names of the parts that lead to it from below the root, and its model
pub record Instance : Type 0 where
  pub path : List ℕ
  pub model : AtomicTree

-- the components of parts, whose paths begin with a path
abbrev pub instances_in : List ℕ → PartTree → List Instance
instances_in path NoParts = []
instances_in path (AtomicPart name m rest) = record { path = path ++ name.number ∷ []; model = m } ∷ instances_in path rest
instances_in path (CoupledPart name m inside rest) = instances_in (path ++ name.number ∷ []) inside ++ instances_in path rest

-- the coupled model of a model, if it is one
abbrev pub coupled_model : Option ModelTree → Option CoupledTree
coupled_model (Some (CoupledModel m)) = Some m
coupled_model other = None

-- the root of a text
abbrev pub root_of : FileTree → Option CoupledTree
root_of f = coupled_model (model_named f.root.number f.models)

-- the parts of a root, down to the greatest depth
abbrev pub tree_in : List ModelTree → Option CoupledTree → PartTree
tree_in models None = NoParts
tree_in models (Some m) = tree_of models m

abbrev pub root_tree : FileTree → PartTree
root_tree f = tree_in f.models (root_of f)

-- the components, numbered from 0 in this order
abbrev pub instances : FileTree → List Instance
instances f = instances_in [] (root_tree f)

abbrev pub inputs_in : Option CoupledTree → List Name
inputs_in None = []
inputs_in (Some m) = m.inputs

abbrev pub outputs_in : Option CoupledTree → List Name
outputs_in None = []
outputs_in (Some m) = m.outputs

-- the names of the root's input ports
abbrev pub root_inputs : FileTree → List ℕ
root_inputs f = numbers_of (inputs_in (root_of f))

-- the names of the root's output ports
abbrev pub root_outputs : FileTree → List ℕ
root_outputs f = numbers_of (outputs_in (root_of f))
