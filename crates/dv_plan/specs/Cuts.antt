-- The links of a model, cut to processes, as contracts see them.
use Rattle.std.specs.Prelude.{ℕ, nat_eq, Bool, List, filter}
use Rattle.dv_conservative.specs.Links.{Link, links_between}
use Rattle.dv_partition.specs.Groups.{Grouping, owner_of}

pub record CutOf : Type 0 where
  pub grouping : Grouping
  pub direct : List Link
  pub entrances : List Link
  pub exits : List Link

-- whether a component belongs to a process
abbrev pub owned_by : Grouping → ℕ → ℕ → Bool
owned_by g p k = nat_eq (owner_of g k) p

-- the direct links from one process to another, or within one process
abbrev pub between : CutOf → ℕ → ℕ → List Link
between c p q = links_between (owned_by c.grouping p) (owned_by c.grouping q) c.direct

-- the links from outside to a process, and from a process to the outside
abbrev pub entrances_to : CutOf → ℕ → List Link
entrances_to c p = filter (λ (l : Link). owned_by c.grouping p l.to) c.entrances

abbrev pub exits_from : CutOf → ℕ → List Link
exits_from c p = filter (λ (l : Link). owned_by c.grouping p l.from) c.exits
