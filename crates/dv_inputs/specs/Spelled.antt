-- Words for laws: the bytes of lines and of fields, and inputs written as a text.
use Rattle.std.specs.Prelude.{◌≡◌, ◌≢◌, ℕ, ◌<◌, ◌≤◌, ◌==◌, true, false, if◌then◌else◌, All, IsTrue, IsUtf8, List, [], ◌∷◌, ◌++◌}
use Rattle.std.specs.Prelude.{length, slice_index_or, Some}
use Rattle.std.specs.Fmt.{decimal, signed_decimal}
use Rattle.dv_time.specs.Limits.{greatest_limit}
use Rattle.dv_time.specs.Time.{IsOfRun, time_text}
use Rattle.dv_time.specs.declared.time.Time.{Time}
use Rattle.dv_bag.specs.Bag.{is_number}
use Rattle.dv_bag.specs.declared.inputs.Input.{Input}
use Rattle.dv_inputs.specs.Lines.{is_blank}
use Rattle.dv_inputs.specs.Numbers.{port_in}

-- no byte is a line feed
abbrev pub HasNoFeed : List ℕ → Type 0
HasNoFeed line = All (λ b. b ≢ 10) line

-- every byte is a blank
abbrev pub IsBlank : List ℕ → Type 0
IsBlank bytes = All (λ b. is_blank b ≡ true) bytes

-- bytes, none of them a blank
abbrev pub IsField : List ℕ → Type 0
IsField field = (0 < length field) × All (λ b. is_blank b ≡ false) field

-- a field ends here: at the end, or before a blank
abbrev pub EndsField : List ℕ → Type 0
EndsField [] = Unit {0}
EndsField (b ∷ bytes) = is_blank b ≡ true

-- a name that can be a port's field
pub record IsPortName (name : List ℕ) : Type 0 where
  pub field : IsField name
  pub within_line : HasNoFeed name
  pub utf8 : IsUtf8 name

-- the name of a port
abbrev pub name_of : List (List ℕ) → ℕ → List ℕ
name_of ports port = slice_index_or ports port []

-- an input that a line can have for a run with this limit: its microstep is within the limit, and within the greatest one; its port is
-- found by its name, which can be a field, and its value is a number
pub record CanBeSaid (ports : List (List ℕ)) (limit : ℕ) (i : Input) : Type 0 where
  pub within : IsOfRun limit i.time
  pub few : i.time.micro ≤ greatest_limit
  pub port : port_in ports (name_of ports i.port) ≡ Some i.port
  pub name : IsPortName (name_of ports i.port)
  pub value : IsTrue (is_number i.value)

-- a time as it is written in a line: `T` at the start of a tick, else `T.K`
abbrev pub written_time : Time → List ℕ
written_time t = if t.micro == 0 then decimal t.tick else time_text t

-- the line of an input: its time, the name of its port, and its value
abbrev pub line_of : List (List ℕ) → Input → List ℕ
line_of ports i = written_time i.time ++ (32 ∷ (name_of ports i.port ++ (32 ∷ signed_decimal i.value)))

-- the lines of inputs, each with its line feed
abbrev pub text_of : List (List ℕ) → List Input → List ℕ
text_of ports [] = []
text_of ports (i ∷ inputs) = line_of ports i ++ 10 ∷ text_of ports inputs
