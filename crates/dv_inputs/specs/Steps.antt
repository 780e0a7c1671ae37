-- What each part of the reader reads.
use Rattle.std.specs.Prelude.{ℕ, List, Option, bytes_eq}
use Rattle.std.specs.Borrow.{Bor}
use Rattle.std.specs.HashMap.{HashMap, get_by}

-- the number of a port by the table
abbrev pub number_in : {S : Type 0} → HashMap (Bor (List ℕ)) ℕ S → List ℕ → Option ℕ
number_in numbers name = get_by (λ k. bytes_eq name k.now) numbers
