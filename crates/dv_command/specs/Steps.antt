-- From values of the code to those of `Words`.
use Rattle.std.specs.Prelude.{option_map}
use Rattle.dv_command.specs.declared.part.Part.{Part}
use Rattle.dv_command.specs.declared.part.Part.TheVariants as part
use Rattle.dv_command.specs.declared.part.Index.{Index}
use Rattle.dv_command.specs.declared.part.Index.TheVariants as index
use Rattle.dv_command.specs.declared.part.Read.{Read}
use Rattle.dv_command.specs.Words.{Said, Value, Flag, Setting, Reading, Ready, Awaits, Ended, Step}

-- a part of the code
abbrev pub said_in : Part → Said
said_in (part.Value text) = Value text.now
said_in (part.Flag name) = Flag name.now
said_in (part.Setting name value) = Setting name.now value.now

-- how the next word is read
abbrev pub reading_of : Index → Reading
reading_of index.Ready = Ready
reading_of (index.Awaits name) = Awaits name.now
reading_of index.Ended = Ended

-- the answer to a word
abbrev pub step_of : Read → Step
step_of read = record { said = option_map said_in read.part; next = reading_of read.next }
