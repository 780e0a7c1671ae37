-- Whether a part of a trace holds a fault.
use Rattle.std.specs.Prelude.{Bool, true, false}
use Rattle.std.specs.List.{list_any}
use Rattle.dv_bag.specs.Part.{PartOf}
use Rattle.dv_bag.specs.declared.entry.Entry.{Entry}
use Rattle.dv_bag.specs.declared.entry.What.{What}
use Rattle.dv_bag.specs.declared.entry.What.TheVariants as what

abbrev pub is_fault : What → Bool
is_fault (what.Fault f) = true
is_fault (what.Transition k s) = false

-- some component had a fault
abbrev pub has_fault : PartOf → Bool
has_fault p = list_any (λ (e : Entry). is_fault e.what) p.entries
