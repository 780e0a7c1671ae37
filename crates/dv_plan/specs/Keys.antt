-- Lists of links by keys.
use Rattle.std.specs.Prelude.{◌≡◌, ℕ, zero, suc, ◌+◌, ◌*◌, Bool, not, ◌&&◌, nat_eq, if◌then◌else◌, List, [], ◌∷◌, ◌++◌, map}
use Rattle.std.specs.Prelude.{length, slice_index_or}
use Rattle.std.specs.List.{range_with_len}
use Rattle.dv_conservative.specs.World.{Channel as Meant}
use Rattle.dv_partition.specs.Groups.{Grouping, owner_of}
use Rattle.dv_partition.specs.Steps.{with_key}
use Rattle.dv_share.specs.declared.link.Link.{Link}

-- the key of a link: the processes of its ends, as one number
abbrev pub pair_key : Grouping → Link → ℕ
pair_key g l = owner_of g l.from * g.processes + owner_of g l.to

abbrev pub sender_key : Grouping → Link → ℕ
sender_key g l = owner_of g l.from

abbrev pub receiver_key : Grouping → Link → ℕ
receiver_key g l = owner_of g l.to

-- items by their keys: a list for each key below a count
abbrev pub lists_by : (Link → ℕ) → ℕ → List Link → List (List Link)
lists_by key count ls = map (λ k. with_key k (map key ls) ls) (range_with_len 0 count)

-- whether there are links from one process to another one, by a list for each pair of processes
abbrev pub sends : ℕ → List (List Link) → ℕ → ℕ → Bool
sends n lists p q = not (nat_eq p q) && not (nat_eq (length (slice_index_or lists (p * n + q) [])) 0)

-- those of so many processes, from one on, to which a process sends
abbrev pub sent_by : (ℕ → ℕ → Bool) → ℕ → ℕ → ℕ → List Meant
sent_by sends p q zero = []
sent_by sends p q (suc n) =
    if sends p q then record { source = p; target = q } ∷ sent_by sends p (suc q) n else sent_by sends p (suc q) n

abbrev pub all_sent : (ℕ → ℕ → Bool) → ℕ → ℕ → ℕ → List Meant
all_sent sends count p zero = []
all_sent sends count p (suc n) = sent_by sends p 0 count ++ all_sent sends count (suc p) n

-- the invariant of the type of a cut: each list has the links of its key
pub record IsCut (g : Grouping) (direct entering leaving : List Link) (pairs to from : List (List Link)) : Type 0 where
  pub between : pairs ≡ lists_by (pair_key g) (g.processes * g.processes) direct
  pub entrances : to ≡ lists_by (receiver_key g) g.processes entering
  pub exits : from ≡ lists_by (sender_key g) g.processes leaving
