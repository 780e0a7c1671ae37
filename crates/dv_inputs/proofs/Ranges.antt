-- What holds of each input that a line says holds of all inputs of a text.
use Rattle.std.proofs.Common.{◌≡◌, All, bytes_eq, ℕ, ◌+◌, ◌<◌, ◌≤◌, nat_lt, Bool, true, false, cond, List, [], ◌∷◌, ◌++◌, length, Option}
use Rattle.std.proofs.Common.{Some, None, Result, Ok, Err, refl, sym, ap, ◌∙◌, subst, arith}
use Rattle.std.specs.Str.{is_utf8}
use Rattle.std.proofs.lemmas.Bool.{ltb-false}
use Rattle.std.proofs.lemmas.List.Elements.{All-push}
use Rattle.dv_time.specs.Limits.{greatest_tick}
use Rattle.dv_time.specs.Time.{IsOfRun, is_before}
use Rattle.dv_time.specs.declared.time.Time.{Time}
use Rattle.dv_bag.specs.Inputs.{last_time}
use Rattle.dv_bag.specs.declared.inputs.Input.{Input}
use Rattle.dv_inputs.specs.Lines.{fields_of, is_passed_over, lines_of, without_return}
use Rattle.dv_inputs.specs.Numbers.{port_in, time_in, value_in}
use Rattle.dv_inputs.specs.Reading.{◌>>=◌, input_of, not_before, on_line, or_refused, reading_after, reading_of, tested_line}
use Rattle.dv_inputs.specs.Reading.{three_of, with_line, within_limit}
use Rattle.dv_inputs.specs.declared.error.InputRefusal.{InputRefusal}
use Rattle.dv_inputs.specs.declared.error.InputRefusalNumber.{InputRefusalNumber}
use Rattle.dv_inputs.specs.declared.error.InputRefusalNumber.TheVariants.{I1, I2, I3, I4, I5}
use Rattle.dv_inputs.proofs.Cuts.{found}
use Rattle.dv_inputs.proofs.Times.{found_tick}

-- what went on was found
pub went_on : {A B : Type 0} (r : Result A InputRefusalNumber) (f : A → Result B InputRefusalNumber) (y : B) → (r >>= f) ≡ Ok y
    → (x : A) × (r ≡ Ok x) × (f x ≡ Ok y)
went_on (Ok x) f y e = (x, refl, e)
went_on (Err n) f y e = cc

pub was_found : {A : Type 0} (n : InputRefusalNumber) (o : Option A) (x : A) → or_refused n o ≡ Ok x → o ≡ Some x
was_found n None x e = cc
was_found n (Some y) x e = cc

-- what its tests found
pub record Said (find : List ℕ → Option ℕ) (limit : ℕ) (i : Input) : Type 0 where
  pub name : List ℕ
  pub port : find name ≡ Some i.port
  pub within : IsOfRun limit i.time
  pub tick : i.time.tick ≤ greatest_tick
  pub text : List ℕ
  pub value : value_in text ≡ Some i.value

passed_after : (last said time : Time) → not_before last said ≡ Some time → said ≡ time
passed_after last said time e = step (is_before said last) e
  where
    step : (before : Bool) → cond before None (Some said) ≡ Some time → said ≡ time
    step true e = cc
    step false e = cc

passed_within : (limit : ℕ) (said time : Time) → within_limit limit said ≡ Some time → (said ≡ time) × IsOfRun limit time
passed_within limit said time e = step (nat_lt limit said.micro) refl e
  where
    step : (above : Bool) → nat_lt limit said.micro ≡ above → cond above None (Some said) ≡ Some time
        → (said ≡ time) × IsOfRun limit time
    step true test e = cc
    step false test e = let same : said ≡ time = cc in (same, subst (IsOfRun limit) same (ltb-false limit said.micro test))

input_said : (find : List ℕ → Option ℕ) (limit : ℕ) (last : Time) (line : List ℕ) (i : Input) → input_of find limit last line ≡ Ok i
    → Said find limit i
input_said find limit last line i e =
    let fields = went_on (or_refused I1 (three_of (fields_of line))) _ i e in
    let said = went_on (or_refused I1 (time_in fields.0.0)) _ i fields.2 in
    let port = went_on (or_refused I2 (find fields.0.1)) _ i said.2 in
    let later = went_on (or_refused I3 (not_before last said.0)) _ i port.2 in
    let value = went_on (or_refused I4 (value_in fields.0.2)) _ i later.2 in
    let time = went_on (or_refused I5 (within_limit limit later.0)) _ i value.2 in
    let passed = passed_within limit later.0 time.0 (was_found I5 (within_limit limit later.0) time.0 time.1) in
    let first : said.0 ≡ time.0 = passed_after last said.0 later.0 (was_found I3 (not_before last said.0) later.0 later.1) ∙ passed.0 in
    let whole : record { time = time.0; port = port.0; value = value.0 } ≡ i = cc in
    record {
      name = fields.0.1;
      port = was_found I2 (find fields.0.1) port.0 port.1 ∙ ap (λ (j : Input). Some j.port) whole;
      within = subst (λ (j : Input). IsOfRun limit j.time) whole passed.1;
      tick =
          subst (λ (j : Input). j.time.tick ≤ greatest_tick) whole
          (subst (λ (t : Time). t.tick ≤ greatest_tick) first
          (found_tick fields.0.0 said.0 (was_found I1 (time_in fields.0.0) said.0 said.1)));
      text = fields.0.2;
      value = was_found I4 (value_in fields.0.2) value.0 value.1 ∙ ap (λ (j : Input). Some j.value) whole;
    }

pub tested_said : (find : List ℕ → Option ℕ) (limit : ℕ) (last : Time) (line : List ℕ) (i : Input)
    → tested_line find limit last line ≡ Ok i → Said find limit i
tested_said find limit last line i e = step (is_utf8 line) e
  where
    step : (valid : Bool) → cond valid (input_of find limit last line) (Err I1) ≡ Ok i → Said find limit i
    step true e = input_said find limit last line i e
    step false e = cc

pub line_read : (number : ℕ) (r : Result (List Input) InputRefusalNumber) (next : List Input → Result (List Input) InputRefusal)
    (out : List Input) → on_line number r next ≡ Ok out → (more : List Input) × (r ≡ Ok more) × (next more ≡ Ok out)
line_read number (Ok more) next out e = (more, refl, e)
line_read number (Err n) next out e = cc

module _ (find : List ℕ → Option ℕ) (limit : ℕ) (P : Input → Type 0) (holds : (i : Input) → Said find limit i → P i) where
  line_inputs : (inputs : List Input) (line : List ℕ) (more : List Input) → All P inputs → with_line find limit inputs line ≡ Ok more
      → All P more
  line_inputs inputs line more h e = step (is_passed_over line) e
    where
      step : (t : Bool) → cond t (Ok inputs) (tested_line find limit (last_time inputs) line >>=
          (λ (i : Input). Ok (inputs ++ i ∷ []))) ≡ Ok more → All P more
      step true e = let same : inputs ≡ more = cc in subst (All P) same h
      step false e =
          let read = went_on (tested_line find limit (last_time inputs) line) (λ (i : Input). Ok (inputs ++ i ∷ [])) more e in
          let same : inputs ++ read.0 ∷ [] ≡ more = cc in
          subst (All P) same (All-push P inputs read.0 h (holds read.0 (tested_said find limit (last_time inputs) line read.0 read.1)))

  -- what holds of each input that is said holds of all inputs of the lines
  pub lines_inputs : (lines : List (List ℕ)) (inputs : List Input) (number : ℕ) (out : List Input)
      → All P inputs → reading_after find limit inputs number lines ≡ Ok out → All P out
  lines_inputs [] inputs number out h e = let same : inputs ≡ out = cc in subst (All P) same h
  lines_inputs (line ∷ lines) inputs number out h e =
      let read = line_read number (with_line find limit inputs (without_return line))
      (λ (more : List Input). reading_after find limit more (number + 1) lines) out e in
      lines_inputs lines read.0 (number + 1) out (line_inputs inputs (without_return line) read.0 h read.1) read.2

found_port : (ports : List (List ℕ)) (name : List ℕ) (n : ℕ) → port_in ports name ≡ Some n → n < length ports
found_port ports name n e = let at = found (bytes_eq name) ports n (sym e) in omega (arith, at.0)

pub of_ports : (text : List ℕ) (ports : List (List ℕ)) (limit : ℕ) (inputs : List Input) → reading_of text ports limit ≡ Ok inputs
    → All (λ (i : Input). i.port < length ports) inputs
of_ports text ports limit inputs e =
    lines_inputs (port_in ports) limit (λ (i : Input). i.port < length ports) (λ i said. found_port ports said.name i.port said.port)
    (lines_of text) [] 1 inputs (λ k d lt. absurd (omega arith)) e

pub of_run : (text : List ℕ) (ports : List (List ℕ)) (limit : ℕ) (inputs : List Input) → reading_of text ports limit ≡ Ok inputs
    → All (λ (i : Input). IsOfRun limit i.time) inputs
of_run text ports limit inputs e =
    lines_inputs (port_in ports) limit (λ (i : Input). IsOfRun limit i.time) (λ i said. said.within)
    (lines_of text) [] 1 inputs (λ k d lt. absurd (omega arith)) e
