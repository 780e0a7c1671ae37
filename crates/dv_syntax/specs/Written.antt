-- Files as they are written, with their items in the order of the text, and how those are sorted.
use Rattle.std.specs.Prelude.{List, [], ◌∷◌, Option, map}
use Rattle.dv_syntax.specs.declared.tree.Name.{Name}
use Rattle.dv_syntax.specs.declared.tree.Declaration.{Declaration}
use Rattle.dv_syntax.specs.declared.tree.Start.{Start}
use Rattle.dv_syntax.specs.declared.tree.Part.{Part}
use Rattle.dv_syntax.specs.declared.tree.Link.{Link}
use Rattle.dv_syntax.specs.declared.tree.Version.{Version}
use Rattle.dv_syntax.specs.Trees.{PhasesTree, HoldTree, RuleTree, AtomicTree, CoupledTree, ModelTree, AtomicModel, CoupledModel, FileTree}

-- an item of an atomic model
pub data AtomicItem : Type 0 where
  Declares : (declaration : Declaration) → AtomicItem
  Lists : (phases : PhasesTree) → AtomicItem
  Starts : (start : Start) → AtomicItem
  Holds : (hold : HoldTree) → AtomicItem
  Rules : (rule : RuleTree) → AtomicItem

-- an item of a coupled model
pub data CoupledItem : Type 0 where
  Inputs : (port : Name) → CoupledItem
  Outputs : (port : Name) → CoupledItem
  Contains : (part : Part) → CoupledItem
  Couples : (link : Link) → CoupledItem

pub data WrittenModel : Type 0 where
  WrittenAtomic : (name : Name) → (items : List AtomicItem) → WrittenModel
  WrittenCoupled : (name : Name) → (items : List CoupledItem) → WrittenModel

pub record WrittenFile : Type 0 where
  pub header : Option Version
  pub models : List WrittenModel
  pub root : Name

-- an item before the others of its kind
abbrev pub before_items : AtomicItem → AtomicTree → AtomicTree
before_items (Declares d) m = record m { declarations = d ∷ m.declarations }
before_items (Lists p) m = record m { phases = p ∷ m.phases }
before_items (Starts s) m = record m { starts = s ∷ m.starts }
before_items (Holds h) m = record m { holds = h ∷ m.holds }
before_items (Rules r) m = record m { rules = r ∷ m.rules }

abbrev pub sorted_items : Name → List AtomicItem → AtomicTree
sorted_items name [] = record { name = name; declarations = []; phases = []; starts = []; holds = []; rules = [] }
sorted_items name (i ∷ items) = before_items i (sorted_items name items)

abbrev pub before_coupled_items : CoupledItem → CoupledTree → CoupledTree
before_coupled_items (Inputs port) m = record m { inputs = port ∷ m.inputs }
before_coupled_items (Outputs port) m = record m { outputs = port ∷ m.outputs }
before_coupled_items (Contains part) m = record m { parts = part ∷ m.parts }
before_coupled_items (Couples link) m = record m { links = link ∷ m.links }

abbrev pub sorted_coupled_items : Name → List CoupledItem → CoupledTree
sorted_coupled_items name [] = record { name = name; inputs = []; outputs = []; parts = []; links = [] }
sorted_coupled_items name (i ∷ items) = before_coupled_items i (sorted_coupled_items name items)

abbrev pub sorted_model : WrittenModel → ModelTree
sorted_model (WrittenAtomic name items) = AtomicModel (sorted_items name items)
sorted_model (WrittenCoupled name items) = CoupledModel (sorted_coupled_items name items)

-- the tree of a file: its items sorted by kind, each kind in the order of the text
abbrev pub sorted : WrittenFile → FileTree
sorted f = record { models = map sorted_model f.models; root = f.root }
