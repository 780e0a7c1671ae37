-- The meaning of a text of inputs: its inputs, or the first refusal of its first refused line.
use Rattle.std.specs.Prelude.{ℕ, ◌+◌, nat_lt, List, [], ◌∷◌, ◌++◌, Option, Some, None, Result, Ok, Err, if◌then◌else◌}
use Rattle.std.specs.Str.{is_utf8}
use Rattle.dv_time.specs.Time.{is_before}
use Rattle.dv_time.specs.declared.time.Time.{Time}
use Rattle.dv_bag.specs.Inputs.{last_time}
use Rattle.dv_bag.specs.declared.inputs.Input.{Input}
use Rattle.dv_inputs.specs.Lines.{lines_of, without_return, is_passed_over, fields_of}
use Rattle.dv_inputs.specs.Numbers.{time_in, port_in, value_in}
use Rattle.dv_inputs.specs.declared.error.InputRefusalNumber.{InputRefusalNumber}
use Rattle.dv_inputs.specs.declared.error.InputRefusalNumber.TheVariants.{I1, I2, I3, I4, I5}
use Rattle.dv_inputs.specs.declared.error.InputRefusal.{InputRefusal}

infixl 10 ◌>>=◌
-- continues with the result of a test, or ends with the refusal
abbrev pub ◌>>=◌ : {A B : Type 0} → Result A InputRefusalNumber → (A → Result B InputRefusalNumber) → Result B InputRefusalNumber
(Ok x) >>= f = f x
(Err e) >>= f = Err e

-- what was found, or else this refusal
abbrev pub or_refused : {A : Type 0} → InputRefusalNumber → Option A → Result A InputRefusalNumber
or_refused e None = Err e
or_refused e (Some x) = Ok x

-- the fields of a line that has three
abbrev pub three_of : List (List ℕ) → Option (List ℕ × List ℕ × List ℕ)
three_of (time ∷ port ∷ value ∷ []) = Some (time, port, value)
three_of _ = None

-- a time that is not before the previous one
abbrev pub not_before : Time → Time → Option Time
not_before last time = if is_before time last then None else Some time

-- a time whose microstep is within the limit of a run
abbrev pub within_limit : ℕ → Time → Option Time
within_limit limit time = if nat_lt limit time.micro then None else Some time

-- the input in a line, for a run with this limit: its tests in order, where `find` gives the number of a port by its name, and `last` is
-- the time of the previous input
abbrev pub input_of : (List ℕ → Option ℕ) → ℕ → Time → List ℕ → Result Input InputRefusalNumber
input_of find limit last line =
    or_refused I1 (three_of (fields_of line)) >>= (λ fields.
    or_refused I1 (time_in fields.0) >>= (λ said.
    or_refused I2 (find fields.1) >>= (λ port.
    or_refused I3 (not_before last said) >>= (λ later.
    or_refused I4 (value_in fields.2) >>= (λ value.
    or_refused I5 (within_limit limit later) >>= (λ time.
    Ok (record { time = time; port = port; value = value })))))))

-- the input in a line that may be other than UTF-8
abbrev pub tested_line : (List ℕ → Option ℕ) → ℕ → Time → List ℕ → Result Input InputRefusalNumber
tested_line find limit last line = if is_utf8 line then input_of find limit last line else Err I1

-- the inputs of a line, after those before it: none if it is a comment or blank, else one, or a refusal
abbrev pub with_line : (List ℕ → Option ℕ) → ℕ → List Input → List ℕ → Result (List Input) InputRefusalNumber
with_line find limit inputs line =
    if is_passed_over line
    then Ok inputs
    else tested_line find limit (last_time inputs) line >>= (λ input. Ok (inputs ++ input ∷ []))

-- continues behind a line of this number, or ends with its refusal
abbrev pub on_line : ℕ → Result (List Input) InputRefusalNumber → (List Input → Result (List Input) InputRefusal)
    → Result (List Input) InputRefusal
on_line number (Ok inputs) next = next inputs
on_line number (Err e) next = Err (record { number = e; line = number })

-- the inputs of lines from one of this number on, after those before it
abbrev pub reading_after : (List ℕ → Option ℕ) → ℕ → List Input → ℕ → List (List ℕ) → Result (List Input) InputRefusal
reading_after find limit inputs number [] = Ok inputs
reading_after find limit inputs number (line ∷ lines) =
    on_line number (with_line find limit inputs (without_return line)) (λ more. reading_after find limit more (number + 1) lines)

-- the meaning of a text for a run with this limit, when the root's input ports have these names
abbrev pub reading_of : List ℕ → List (List ℕ) → ℕ → Result (List Input) InputRefusal
reading_of text ports limit = reading_after (port_in ports) limit [] 1 (lines_of text)
