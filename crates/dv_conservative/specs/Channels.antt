-- The links between processes, in the order of their numbers: by the process that sends, and then by the one that receives.
use Rattle.std.specs.Prelude.{ℕ, zero, suc, Bool, not, ◌&&◌, nat_eq, if◌then◌else◌, List, [], ◌∷◌, ◌++◌}
use Rattle.std.specs.List.{list_any}
use Rattle.dv_conservative.specs.Links.{Link}
use Rattle.dv_conservative.specs.World.{Channel}

-- whether a link between components leads from one process to another
abbrev pub leads_between : (ℕ → ℕ) → ℕ → ℕ → Link → Bool
leads_between owner p q l = nat_eq (owner l.from) p && nat_eq (owner l.to) q

-- whether one leads from a process to a different one
abbrev pub crosses : (ℕ → ℕ) → List Link → ℕ → ℕ → Bool
crosses owner links p q = not (nat_eq p q) && list_any (leads_between owner p q) links

-- the links of a process to a number of others from one on
abbrev pub channels_of : (ℕ → ℕ) → List Link → ℕ → ℕ → ℕ → List Channel
channels_of owner links p q zero = []
channels_of owner links p q (suc n) =
    if crosses owner links p q
    then record { source = p; target = q } ∷ channels_of owner links p (suc q) n
    else channels_of owner links p (suc q) n

-- those of a number of processes from one on
abbrev pub channels_from : (ℕ → ℕ) → List Link → ℕ → ℕ → ℕ → List Channel
channels_from owner links count p zero = []
channels_from owner links count p (suc n) =
    channels_of owner links p 0 count ++ channels_from owner links count (suc p) n

-- wherever a link leads from a component of one process to one of another, there is one between the processes
abbrev pub all_channels : (ℕ → ℕ) → List Link → ℕ → List Channel
all_channels owner links count = channels_from owner links count 0 count
