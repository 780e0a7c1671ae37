-- What is told to a record, and when it can be told.
use Rattle.std.specs.Prelude.{◌≡◌, ℕ, ◌+◌, nat_eq, if◌then◌else◌, true, false, List, [], ◌∷◌, ◌++◌, take}
use Rattle.std.specs.List.{All}
use Rattle.dv_time.specs.Time.{is_before}
use Rattle.dv_time.specs.declared.time.Time.{Time}
use Rattle.dv_bag.specs.Bag.{Counts, size}
use Rattle.dv_bag.specs.Part.{PartOf, nothing}
use Rattle.dv_bag.specs.declared.entry.Entry.{Entry}
use Rattle.dv_bag.specs.declared.entry.Outer.{Outer}
use Rattle.dv_bag.specs.declared.entry.What.{What}

-- all that was told, and what is settled of it
pub record Told : Type 0 where
  pub told : PartOf
  pub settled : PartOf

-- What a record has handed over: how it writes a part as a text, what of the text was handed over, and the part that was moved out.
-- To tell, settle or take back something does not change it.
pub record Handed : Type 0 where
  pub text_of : PartOf → List ℕ
  pub text : List ℕ
  pub past : PartOf

-- of a record without a text, out of which a part was moved
abbrev pub no_text_past : PartOf → Handed
no_text_past past = record { text_of = λ p. []; text = []; past = past }

-- of a record without a text, out of which nothing was moved
abbrev pub no_text : Handed
no_text = no_text_past nothing

abbrev pub told_of : Told → PartOf
told_of x = x.told

abbrev pub settled_of : Told → PartOf
settled_of x = x.settled

-- the first entries and output lines of a part
abbrev pub first_of : ℕ → ℕ → PartOf → PartOf
first_of entries lines p = record { entries = take entries p.entries; outer = take lines p.outer }

-- what happened to a component at a time, and what it sent then
abbrev pub entry : Time → ℕ → What → List Counts → Entry
entry time component what sent = record { time = time; component = component; what = what; sent = sent }

-- a part with one more entry
abbrev pub with_entry : Entry → PartOf → PartOf
with_entry e p = record { entries = p.entries ++ e ∷ []; outer = p.outer }

-- the output line of a port; a port without values has none
abbrev pub line_at : Time → ℕ → Counts → List Outer
line_at time port values =
    if nat_eq (size values) 0 then [] else record { time = time; port = port; values = values } ∷ []

-- what leaves at a time, by the ports from this one on
abbrev pub lines_from : Time → ℕ → List Counts → List Outer
lines_from time port [] = []
lines_from time port (b ∷ bs) = line_at time port b ++ lines_from time (port + 1) bs

-- a part with more output lines
abbrev pub with_lines : List Outer → PartOf → PartOf
with_lines os p = record { entries = p.entries; outer = p.outer ++ os }

-- The instant at a time can still be told: no entry is after it, and all that left is before it.
pub record IsOpenAt (time : Time) (p : PartOf) : Type 0 where
  pub entries : All (λ (e : Entry). is_before time e.time ≡ false) p.entries
  pub lines : All (λ (o : Outer). is_before o.time time ≡ true) p.outer
