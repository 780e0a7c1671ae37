-- Entries by their lines, and a record of them.
use Rattle.std.specs.Prelude.{ℕ, List}
use Rattle.dv_bag.specs.Part.{PartOf}
use Rattle.dv_bag.specs.declared.entry.Entry.{Entry}
use Rattle.dv_record.specs.Told.{Handed, no_text_past}
use Rattle.dv_text.specs.Texts.{ComponentNames, entry_text, names_at}
use Rattle.dv_lines.specs.Tables.{words_at}
use Rattle.dv_lines.specs.Words.{WordTexts, line_words}

-- the line of an entry, by the names of all components and by their words
abbrev pub line_of : List ComponentNames → Entry → List ℕ
line_of all e = entry_text (names_at all e.component) e

abbrev pub line_by : List WordTexts → Entry → List ℕ
line_by words e = line_words (words_at words e.component) e.time e.what e.sent

-- all that was told, what is settled of it, and what was moved out
pub record Written : Type 0 where
  pub told : PartOf
  pub settled : PartOf
  pub past : PartOf

abbrev pub told_of : Written → PartOf
told_of x = x.told

abbrev pub settled_of : Written → PartOf
settled_of x = x.settled

abbrev pub handed_of : Written → Handed
handed_of x = no_text_past x.past
