-- The words of a trace.
use Rattle.std.specs.Prelude.{ℕ, List, Result, Ok, Err, ◌≡◌, ◌≢◌, codes}
use Rattle.dv_bag.specs.declared.entry.Kind.{Kind}
use Rattle.dv_bag.specs.declared.entry.NoKind.{NoKind}
use Rattle.dv_bag.specs.declared.entry.Kind.TheVariants.{Internal, External, Confluent}
use Rattle.dv_bag.specs.declared.fault.Fault.{Fault}
use Rattle.dv_bag.specs.declared.fault.NoFault.{NoFault}
use Rattle.dv_bag.specs.declared.fault.Fault.TheVariants.{Overflow, Divide, Range, Empty, Full, Negative, Microsteps, Flood}

abbrev pub kind_word : Kind → List ℕ
kind_word Internal = codes "i"
kind_word External = codes "e"
kind_word Confluent = codes "c"

abbrev pub fault_word : Fault → List ℕ
fault_word Overflow = codes "overflow"
fault_word Divide = codes "divide"
fault_word Range = codes "range"
fault_word Empty = codes "empty"
fault_word Full = codes "full"
fault_word Negative = codes "negative"
fault_word Microsteps = codes "microsteps"
fault_word Flood = codes "flood"

-- a word is read as the kind that it names, and is refused if it names none
abbrev pub ReadsKind : List ℕ → Result Kind NoKind → Type 0
ReadsKind word (Ok kind) = word ≡ kind_word kind
ReadsKind word (Err none) = (kind : Kind) → word ≢ kind_word kind

-- the same for faults
abbrev pub ReadsFault : List ℕ → Result Fault NoFault → Type 0
ReadsFault word (Ok fault) = word ≡ fault_word fault
ReadsFault word (Err none) = (fault : Fault) → word ≢ fault_word fault
