-- What was not handed over yet.
use Rattle.std.specs.Prelude.{ℕ, List, length, drop}
use Rattle.std.specs.List.{flat_map}
use Rattle.dv_bag.specs.Part.{PartOf}
use Rattle.dv_bag.specs.declared.entry.Entry.{Entry}

-- the length of its lines in bytes
abbrev pub rest_length : (Entry → List ℕ) → PartOf → PartOf → ℕ
rest_length line handed told = length (flat_map line (drop (length handed.entries) told.entries))
