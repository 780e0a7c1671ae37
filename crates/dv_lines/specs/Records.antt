-- A record that keeps the text of a trace: what was told, and the bytes of it.
use Rattle.std.specs.Prelude.{ℕ, ◌≡◌, ◌≤◌, List, [], ◌++◌, length, take}
use Rattle.dv_bag.specs.Part.{IsByTime, PartOf, nothing}
use Rattle.dv_record.specs.Told.{Handed}
use Rattle.dv_text.specs.Texts.{ComponentNames, part_text}

-- the names in its lines; all that was told, and what of it is settled; the bytes that were handed over, and those that are still here
pub record Recorded : Type 0 where
  pub names : List ComponentNames
  pub outputs : List (List ℕ)
  pub told : PartOf
  pub settled : PartOf
  pub handed : List ℕ
  pub bytes : List ℕ

-- a record by the parts that were told, settled and handed over
abbrev pub recorded : List ComponentNames → List (List ℕ) → PartOf → PartOf → PartOf → List ℕ → Recorded
recorded names outputs told settled handed bytes = record {
  names = names;
  outputs = outputs;
  told = told;
  settled = settled;
  handed = part_text names outputs handed;
  bytes = bytes;
}

-- nothing was told
abbrev pub fresh : List ComponentNames → List (List ℕ) → Recorded
fresh names outputs = record { names = names; outputs = outputs; told = nothing; settled = nothing; handed = []; bytes = [] }

-- what is told, settled and handed over, as of any record
abbrev pub told_of : Recorded → PartOf
told_of r = r.told

abbrev pub settled_of : Recorded → PartOf
settled_of r = r.settled

abbrev pub handed_of : Recorded → Handed
handed_of r = record { text_of = part_text r.names r.outputs; text = r.handed; past = nothing }

-- after the bytes that were handed over, the bytes here complete the text of all that was told, and those up to the mark complete the
-- text of what is settled
pub record IsText (r : Recorded) (mark : ℕ) : Type 0 where
  pub told_by_time : IsByTime r.told
  pub settled_by_time : IsByTime r.settled
  pub told_text : part_text r.names r.outputs r.told ≡ r.handed ++ r.bytes
  pub settled_text : part_text r.names r.outputs r.settled ≡ r.handed ++ take mark r.bytes
  pub within : mark ≤ length r.bytes
