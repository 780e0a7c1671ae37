-- The models of a text, as links see them.
use Rattle.std.specs.Prelude.{ℕ, List, option_map, Option}
use Rattle.dv_syntax.specs.Trees.{ModelTree, AtomicModel, CoupledModel}
use Rattle.dv_check.specs.declared.declarations.NameSort.{NameSort}
use Rattle.dv_check.specs.declared.directory.Directory.{Directory}
use Rattle.dv_check.specs.Names.{model_named}
use Rattle.dv_check.specs.Ports.{ports_of}
use Rattle.dv_check.specs.Tables.{value_for}
use Rattle.dv_check.specs.Rules.{sort_in}

-- what the names of a model denote: only ports can be coupled
abbrev pub Face : Type 0
Face = ℕ → Option NameSort

abbrev pub face_of : ModelTree → Face
face_of (AtomicModel m) = sort_in m.declarations
face_of (CoupledModel m) = sort_in (ports_of m)

-- the face of the first model of a name
unfoldable pub faces_in : List ModelTree → ℕ → Option Face
faces_in models q = option_map face_of (model_named q models)

-- what the tables contain
unfoldable pub faces_by : Directory (Directory NameSort) → ℕ → Option Face
faces_by faces q = option_map value_for (value_for faces q)
