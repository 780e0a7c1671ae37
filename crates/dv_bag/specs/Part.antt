-- Parts of a trace, joined and cut.
use Rattle.std.specs.Prelude.{◌≡◌, false, not, List, [], ◌++◌, filter}
use Rattle.std.specs.List.{AllPairs}
use Rattle.dv_time.specs.declared.time.Time.{Time}
use Rattle.dv_time.specs.Time.{is_before}
use Rattle.dv_bag.specs.declared.entry.Entry.{Entry}
use Rattle.dv_bag.specs.declared.entry.Outer.{Outer}

-- entries by time and component, and what left the model by time and port
pub record PartOf : Type 0 where
  pub entries : List Entry
  pub outer : List Outer

abbrev pub nothing : PartOf
nothing = record { entries = []; outer = [] }

abbrev pub joined : PartOf → PartOf → PartOf
joined a b = record { entries = a.entries ++ b.entries; outer = a.outer ++ b.outer }

-- what is before a time
abbrev pub before : Time → PartOf → PartOf
before c p = record {
  entries = filter (λ (e : Entry). is_before e.time c) p.entries;
  outer = filter (λ (o : Outer). is_before o.time c) p.outer;
}

-- what is not before a time
abbrev pub since : Time → PartOf → PartOf
since c p = record {
  entries = filter (λ (e : Entry). not (is_before e.time c)) p.entries;
  outer = filter (λ (o : Outer). not (is_before o.time c)) p.outer;
}

-- nothing in a part is before what precedes it
abbrev pub IsByTime : PartOf → Type 0
IsByTime p =
    AllPairs (λ (a b : Entry). is_before b.time a.time ≡ false) p.entries
    × AllPairs (λ (a b : Outer). is_before b.time a.time ≡ false) p.outer
