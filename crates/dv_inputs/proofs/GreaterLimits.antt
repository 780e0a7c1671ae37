-- A greater limit reads what a smaller one reads.
use Rattle.std.proofs.Common.{◌≡◌, ℕ, ◌+◌, ◌≤◌, nat_lt, Bool, true, false, cond, List, [], ◌∷◌, ◌++◌, ℤ, Option, Some, None}
use Rattle.std.proofs.Common.{Result, Ok, Err, refl, ap, ◌∙◌, arith}
use Rattle.std.specs.Str.{is_utf8}
use Rattle.std.proofs.lemmas.Bool.{le-ltb, ltb-false}
use Rattle.dv_time.specs.declared.time.Time.{Time}
use Rattle.dv_bag.specs.Inputs.{last_time}
use Rattle.dv_bag.specs.declared.inputs.Input.{Input}
use Rattle.dv_inputs.specs.Lines.{fields_of, is_passed_over, lines_of, without_return}
use Rattle.dv_inputs.specs.Numbers.{port_in, time_in, value_in}
use Rattle.dv_inputs.specs.Reading.{◌>>=◌, input_of, not_before, on_line, or_refused, reading_after, reading_of, tested_line}
use Rattle.dv_inputs.specs.Reading.{three_of, with_line, within_limit}
use Rattle.dv_inputs.specs.declared.error.InputRefusalNumber.{InputRefusalNumber}
use Rattle.dv_inputs.specs.declared.error.InputRefusalNumber.TheVariants.{I1, I2, I3, I4, I5}
use Rattle.dv_inputs.proofs.Ranges.{line_read, was_found, went_on}

-- the input of tests that all found something
made_input : (find : List ℕ → Option ℕ) (limit : ℕ) (last : Time) (line : List ℕ) (fields : List ℕ × List ℕ × List ℕ)
    (said later time : Time) (port : ℕ) (value : ℤ) (i : Input) → three_of (fields_of line) ≡ Some fields → time_in fields.0 ≡ Some said
    → find fields.1 ≡ Some port → not_before last said ≡ Some later → value_in fields.2 ≡ Some value
    → within_limit limit later ≡ Some time
    → ◌≡◌ {A = Result Input InputRefusalNumber} (Ok (record { time = time; port = port; value = value })) (Ok i)
    → input_of find limit last line ≡ Ok i
made_input find limit last line fields said later time port value i three tick name order number within made =
    rw (three, tick, name, order, number, within) made

module _ (limit more : ℕ) (greater : limit ≤ more) where
  within_more : (said time : Time) → within_limit limit said ≡ Some time → within_limit more said ≡ Some time
  within_more said time e = step (nat_lt limit said.micro) refl e
    where
      step : (above : Bool) → nat_lt limit said.micro ≡ above → cond above None (Some said) ≡ Some time
          → within_limit more said ≡ Some time
      step true test e = cc
      step false test e =
          let below = ltb-false limit said.micro test in
          let small : said.micro ≤ more = omega arith in
          rw (le-ltb more said.micro small) e

  module _ (find : List ℕ → Option ℕ) where
    input_more : (last : Time) (line : List ℕ) (i : Input) → input_of find limit last line ≡ Ok i → input_of find more last line ≡ Ok i
    input_more last line i e =
        let fields = went_on (or_refused I1 (three_of (fields_of line))) _ i e in
        let said = went_on (or_refused I1 (time_in fields.0.0)) _ i fields.2 in
        let port = went_on (or_refused I2 (find fields.0.1)) _ i said.2 in
        let later = went_on (or_refused I3 (not_before last said.0)) _ i port.2 in
        let value = went_on (or_refused I4 (value_in fields.0.2)) _ i later.2 in
        let time = went_on (or_refused I5 (within_limit limit later.0)) _ i value.2 in
        made_input find more last line fields.0 said.0 later.0 time.0 port.0 value.0 i
        (was_found I1 (three_of (fields_of line)) fields.0 fields.1)
        (was_found I1 (time_in fields.0.0) said.0 said.1)
        (was_found I2 (find fields.0.1) port.0 port.1)
        (was_found I3 (not_before last said.0) later.0 later.1)
        (was_found I4 (value_in fields.0.2) value.0 value.1)
        (within_more later.0 time.0 (was_found I5 (within_limit limit later.0) time.0 time.1))
        time.2

    line_more : (inputs : List Input) (line : List ℕ) (out : List Input) → with_line find limit inputs line ≡ Ok out
        → with_line find more inputs line ≡ Ok out
    line_more inputs line out e = step (is_passed_over line) e
      where
        tested : (valid : Bool) (i : Input) → cond valid (input_of find limit (last_time inputs) line) (Err I1) ≡ Ok i
            → cond valid (input_of find more (last_time inputs) line) (Err I1) ≡ Ok i
        tested true i e = input_more (last_time inputs) line i e
        tested false i e = e

        step : (passed : Bool) → cond passed (Ok inputs) (tested_line find limit (last_time inputs) line >>=
            (λ (i : Input). Ok (inputs ++ i ∷ []))) ≡ Ok out
            → cond passed (Ok inputs) (tested_line find more (last_time inputs) line >>=
            (λ (i : Input). Ok (inputs ++ i ∷ []))) ≡ Ok out
        step true e = e
        step false e =
            let read = went_on (tested_line find limit (last_time inputs) line) (λ (i : Input). Ok (inputs ++ i ∷ [])) out e in
            ap (λ (r : Result Input InputRefusalNumber). r >>= (λ (i : Input). Ok (inputs ++ i ∷ []))) (tested (is_utf8 line) read.0 read.1)
            ∙ read.2

    lines_more : (lines : List (List ℕ)) (inputs : List Input) (number : ℕ) (out : List Input)
        → reading_after find limit inputs number lines ≡ Ok out → reading_after find more inputs number lines ≡ Ok out
    lines_more [] inputs number out e = e
    lines_more (line ∷ lines) inputs number out e =
        let read = line_read number (with_line find limit inputs (without_return line))
        (λ (next : List Input). reading_after find limit next (number + 1) lines) out e in
        ap (λ (r : Result (List Input) InputRefusalNumber). on_line number r
        (λ (next : List Input). reading_after find more next (number + 1) lines))
        (line_more inputs (without_return line) read.0 read.1)
        ∙ lines_more lines read.0 (number + 1) out read.2

pub reads_more : (text : List ℕ) (ports : List (List ℕ)) (limit more : ℕ) (inputs : List Input) → limit ≤ more
    → reading_of text ports limit ≡ Ok inputs → reading_of text ports more ≡ Ok inputs
reads_more text ports limit more inputs greater e = lines_more limit more greater (port_in ports) (lines_of text) [] 1 inputs e
