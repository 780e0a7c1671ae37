-- The indices of names in a list.
use Rattle.std.specs.Prelude.{◌≡◌, ℕ, ⊤, List, Option, Some, None}
use Rattle.dv_check.specs.Tables.{value_for}
use Rattle.dv_check.specs.declared.directory.Directory.{Directory}
use Rattle.dv_eval.specs.Scope.{index_of}

-- a directory of the first index of each name, if there is one
abbrev pub AreFirsts : List ℕ → Option (Directory ℕ) → Type 0
AreFirsts numbers None = ⊤
AreFirsts numbers (Some firsts) = (q : ℕ) → value_for firsts q ≡ index_of q numbers
