-- What the checks guarantee of a file: its root is a coupled model, whose tree is within the limits; the parts of coupled models have known
-- models, and links lead from an output of a part or an input of the model itself to an input of another part or an output of the model
-- itself.
use Rattle.std.specs.Prelude.{◌≡◌, suc, ◌+◌, ◌<◌, ◌≤◌, true, false, List, [], length, Option, Some, None}
use Rattle.std.specs.List.{AllByRecursion}
use Rattle.dv_syntax.specs.declared.tree.Name.{Name}
use Rattle.dv_syntax.specs.declared.tree.Part.{Part}
use Rattle.dv_syntax.specs.declared.tree.Link.{Link}
use Rattle.dv_syntax.specs.Trees.{ModelTree, AtomicModel, CoupledModel, CoupledTree, FileTree}
use Rattle.dv_eval.specs.Scope.{is_declared}
use Rattle.dv_check.specs.Limits.{greatest_components, greatest_depth, greatest_instances, greatest_names}
use Rattle.dv_check.specs.Names.{among, model_named, part_named}
use Rattle.dv_check.specs.Rules.{atomic_refusals}
use Rattle.dv_check.specs.Ports.{shown_inputs, shown_outputs}
use Rattle.dv_check.specs.Couplings.{leads_back}
use Rattle.dv_check.specs.Tree.{component_count, depth_of, instance_count, tree_of}

-- the model of a part is known
pub record IsKnownPart (models : List ModelTree) (p : Part) : Type 0 where
  pub model : ModelTree
  pub named : model_named p.model.number models ≡ Some model

-- the end is an output of a part
pub record IsOutputOfPart (models : List ModelTree) (parts : List Part) (part_name : Option Name) (port : Name) : Type 0 where
  pub name : Name
  pub at_part : part_name ≡ Some name
  pub part : Part
  pub named : part_named name.number parts ≡ Some part
  pub known : IsKnownPart models part
  pub output : is_declared port.number (shown_outputs known.model) ≡ true

-- the end is an input of a part
pub record IsInputOfPart (models : List ModelTree) (parts : List Part) (part_name : Option Name) (port : Name) : Type 0 where
  pub name : Name
  pub at_part : part_name ≡ Some name
  pub part : Part
  pub named : part_named name.number parts ≡ Some part
  pub known : IsKnownPart models part
  pub input : is_declared port.number (shown_inputs known.model) ≡ true

-- where a link begins: at an input of the model itself, or at an output of a part
abbrev pub IsSource : List ModelTree → CoupledTree → Option Name → Name → Type 0
IsSource models m None port = among m.inputs port.number ≡ true
IsSource models m (Some name) port = IsOutputOfPart models m.parts (Some name) port

-- where it ends: at an output of the model itself, or at an input of a part
abbrev pub IsTarget : List ModelTree → CoupledTree → Option Name → Name → Type 0
IsTarget models m None port = among m.outputs port.number ≡ true
IsTarget models m (Some name) port = IsInputOfPart models m.parts (Some name) port

-- a link between two parts, or between a part and the model itself
pub record LeadsOn (models : List ModelTree) (m : CoupledTree) (l : Link) : Type 0 where
  pub source : IsSource models m l.from.part l.from.port
  pub target : IsTarget models m l.to.part l.to.port
  pub onward : leads_back l ≡ false

pub record IsCheckedCoupled (models : List ModelTree) (m : CoupledTree) : Type 0 where
  pub parts : AllByRecursion (IsKnownPart models) m.parts
  pub links : AllByRecursion (LeadsOn models m) m.links
  pub few_parts : length m.parts ≤ greatest_names
  pub few_ports : length m.inputs + length m.outputs ≤ greatest_names

-- an atomic model breaks no rule, and a coupled one is as above
abbrev pub IsCheckedModel : List ModelTree → ModelTree → Type 0
IsCheckedModel models (AtomicModel m) = atomic_refusals m ≡ []
IsCheckedModel models (CoupledModel m) = IsCheckedCoupled models m

pub record IsCheckedFile (f : FileTree) : Type 0 where
  pub models : AllByRecursion (IsCheckedModel f.models) f.models
  pub root : CoupledTree
  pub named : model_named f.root.number f.models ≡ Some (CoupledModel root)
  pub coupled : IsCheckedCoupled f.models root
  pub some : 0 < component_count (tree_of f.models root)
  pub few_components : component_count (tree_of f.models root) ≤ greatest_components
  pub few_instances : suc (instance_count (tree_of f.models root)) ≤ greatest_instances
  pub flat : depth_of (tree_of f.models root) ≤ greatest_depth

-- no link of a coupled model leads from the model itself to the model itself
abbrev pub IsThrough : Link → Type 0
IsThrough l = (l.from.part ≡ None) × (l.to.part ≡ None)
