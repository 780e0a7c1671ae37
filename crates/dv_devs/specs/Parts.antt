-- The part of the trace that belongs to a set of components.
use Rattle.std.specs.Prelude.{ℕ, Bool, if◌then◌else◌, List, [], ◌∷◌, filter}
use Rattle.dv_bag.specs.Bag.{Counts}
use Rattle.dv_bag.specs.Part.{PartOf}
use Rattle.dv_bag.specs.declared.entry.Entry.{Entry}
use Rattle.dv_devs.specs.Network.{Network, all_before, emissions_at, outer_from, trace_at}

-- what the components of a set send, while the others send nothing
abbrev pub sent_among : (ℕ → Bool) → List ℕ → List (List Counts) → List (List Counts)
sent_among who [] sent = []
sent_among who (k ∷ ks) [] = []
sent_among who (k ∷ ks) (bags ∷ rest) = (if who k then bags else []) ∷ sent_among who ks rest

-- what the instant at a rank adds to the part of a set of components: their entries, and what leaves of what they send
abbrev pub part_at : {I : Type 0} → (ℕ → Bool) → ℕ → Network I → (ℕ → I) → ℕ → PartOf
part_at who limit net inputs n = record {
  entries = filter (λ (e : Entry). who e.component) (trace_at limit net inputs n).entries;
  outer = outer_from limit n 0 (net.leaves (sent_among who net.numbers (emissions_at limit net inputs n)));
}

-- the part of a set of components before a rank
abbrev pub part_before : {I : Type 0} → (ℕ → Bool) → ℕ → Network I → (ℕ → I) → ℕ → PartOf
part_before who limit net inputs n = all_before (part_at who limit net inputs) n
