-- What instants add to a trace or a part, and at which times.
use Rattle.std.specs.Prelude.{◌≡◌, ℕ, suc, ◌+◌, ◌-◌, ◌≤◌, Bool, List, [], ◌∷◌}
use Rattle.std.specs.List.{All}
use Rattle.std.specs.declared.cmp.Ordering.TheVariants.{Less}
use Rattle.dv_time.specs.Time.{time_cmp}
use Rattle.dv_time.specs.declared.time.Time.{Time}
use Rattle.dv_bag.specs.Part.{PartOf}
use Rattle.dv_bag.specs.declared.entry.Entry.{Entry}
use Rattle.dv_bag.specs.declared.entry.Outer.{Outer}
use Rattle.dv_devs.specs.Network.{Network, all_before, trace_at}
use Rattle.dv_devs.specs.Parts.{part_at}

-- the parts of the ranks from one on and before another, one after the other
abbrev pub all_between : (ℕ → PartOf) → ℕ → ℕ → PartOf
all_between parts n m = all_before (λ k. parts (n + k)) (m - n)

-- what the instants from one rank on and before another add to the trace
abbrev pub trace_between : {I : Type 0} → ℕ → Network I → (ℕ → I) → ℕ → ℕ → PartOf
trace_between limit net inputs n m = all_between (trace_at limit net inputs) n m

-- what they add to the part of a set of components
abbrev pub part_between : {I : Type 0} → (ℕ → Bool) → ℕ → Network I → (ℕ → I) → ℕ → ℕ → PartOf
part_between who limit net inputs n m = all_between (part_at who limit net inputs) n m

-- all of a part is at one time
abbrev pub IsAllAt : Time → PartOf → Type 0
IsAllAt t p = All (λ (e : Entry). e.time ≡ t) p.entries × All (λ (o : Outer). o.time ≡ t) p.outer

-- all of a part is before a time
abbrev pub IsAllBefore : Time → PartOf → Type 0
IsAllBefore t p =
    All (λ (e : Entry). time_cmp e.time t ≡ Less) p.entries
    × All (λ (o : Outer). time_cmp o.time t ≡ Less) p.outer

-- numbers are ascending, from one on
abbrev pub RiseFrom : ℕ → List ℕ → Type 0
RiseFrom low [] = Unit {0}
RiseFrom low (k ∷ ks) = (low ≤ k) × RiseFrom (suc k) ks
