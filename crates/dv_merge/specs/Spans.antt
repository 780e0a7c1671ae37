-- Spans: lists of entries that follow one another.
use Rattle.std.specs.Prelude.{List}
use Rattle.std.specs.List.{flat_map}
use Rattle.dv_bag.specs.declared.entry.Entry.{Entry}

-- the entries of spans, one after the other
abbrev pub entries_of : List (List Entry) → List Entry
entries_of spans = flat_map (λ (span : List Entry). span) spans
