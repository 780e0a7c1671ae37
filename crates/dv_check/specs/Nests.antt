-- Coupled models that have only parts.
use Rattle.std.specs.Prelude.{ℕ, zero, suc, ◌+◌, List, [], ◌∷◌}
use Rattle.dv_syntax.specs.declared.tree.Part.{Part}
use Rattle.dv_syntax.specs.declared.tree.RuleSort.TheVariants.{Internal}
use Rattle.dv_syntax.specs.Trees.{ModelTree, AtomicModel, CoupledModel, Done, FileTree}
use Rattle.dv_check.specs.Loops.{heap, name_at}

-- part NAME: MODEL; at an offset
abbrev pub part_at : (offset number model : ℕ) → Part
part_at offset number model = record { name = name_at number (offset + 5); model = name_at model (offset + 8) }

-- coupled NAME { part NAME: MODEL; .. }
abbrev pub around : ℕ → List Part → ModelTree
around number parts = CoupledModel (record { name = name_at number 0; inputs = []; outputs = []; parts = parts; links = [] })

-- a number of coupled models, each around the one before, and the first around an atomic one
abbrev pub tower : ℕ → List ModelTree
tower zero = AtomicModel (heap [] Internal Done) ∷ []
tower (suc n) = around (suc n) (part_at 0 0 n ∷ []) ∷ tower n

-- these models, and root NAME;
abbrev pub rooted : List ModelTree → ℕ → FileTree
rooted models number = record { models = models; root = name_at number 90 }
