-- The ports of a coupled model in the order of the text, and the ports of a model.
use Rattle.std.specs.Prelude.{ℕ, nat_lt, if◌then◌else◌, List, [], ◌∷◌, ◌++◌, map}
use Rattle.dv_syntax.specs.Trees.{AtomicModel, CoupledModel, CoupledTree, ModelTree}
use Rattle.dv_syntax.specs.declared.tree.Name.{Name}
use Rattle.dv_syntax.specs.declared.tree.Declaration.{Declaration}
use Rattle.dv_syntax.specs.declared.tree.Declaration.TheVariants.{In, Out}
use Rattle.dv_eval.specs.Scope.{scope_of}
use Rattle.dv_check.specs.Names.{numbers_of}

-- the names of a list before an offset, up to the first one that is not, and the others
abbrev pub names_before : ℕ → List Name → List Name
names_before offset [] = []
names_before offset (n ∷ names) = if nat_lt n.offset offset then n ∷ names_before offset names else []

abbrev pub names_from : ℕ → List Name → List Name
names_from offset [] = []
names_from offset (n ∷ names) = if nat_lt n.offset offset then names_from offset names else n ∷ names

-- the ports of a coupled model in the order of the text, merged from the lists of both directions
abbrev pub ports_by_offset : List Name → List Name → List Declaration
ports_by_offset [] outputs = map Out outputs
ports_by_offset (i ∷ inputs) outputs =
    map Out (names_before i.offset outputs) ++ In i ∷ ports_by_offset inputs (names_from i.offset outputs)

abbrev pub ports_of : CoupledTree → List Declaration
ports_of m = ports_by_offset m.inputs m.outputs

-- the numbers of the names of the ports of a model
abbrev pub shown_inputs : ModelTree → List ℕ
shown_inputs (AtomicModel m) = (scope_of m).inputs
shown_inputs (CoupledModel m) = numbers_of m.inputs

abbrev pub shown_outputs : ModelTree → List ℕ
shown_outputs (AtomicModel m) = (scope_of m).outputs
shown_outputs (CoupledModel m) = numbers_of m.outputs
