-- Inputs that are written as a text are read from it.
use Rattle.std.proofs.Common.{◌≡◌, ◌≢◌, ℕ, suc, ◌+◌, ◌<◌, ◌≤◌, ◌^◌, true, false, All, IsTrue, IsUtf8, List, [], ◌∷◌, ◌++◌, length}
use Rattle.std.proofs.Common.{get_or, append-nil, append_assoc, length-append, ℤ, pos, negsuc, Option, Some, Result, Ok, refl}
use Rattle.std.proofs.Common.{sym, ap, ◌∙◌, subst, arith}
use Rattle.std.specs.Fmt.{decimal, signed_decimal}
use Rattle.std.specs.Int.{IsInRange}
use Rattle.std.specs.Str.{is_utf8}
use Rattle.std.proofs.lemmas.Bool.{le-ltb, ltb-true, ne_eqb}
use Rattle.std.proofs.lemmas.Fmt.{IsAscii-decimal, decimal_nonempty}
use Rattle.std.proofs.lemmas.List.Elements.{All-append, All-cons}
use Rattle.std.proofs.lemmas.Str.{IsUtf8-append, IsUtf8-from_ascii, is_utf8-from_IsUtf8}
use Rattle.std.proofs.lemmas.Str.Ascii.{IsAscii-cons, IsAscii-nil}
use Rattle.dv_time.specs.Limits.{greatest_limit, greatest_tick}
use Rattle.dv_bag.specs.Bag.{is_number}
use Rattle.dv_time.specs.Time.{IsOfRun, is_before}
use Rattle.dv_time.specs.declared.time.Time.{Time}
use Rattle.dv_bag.specs.Inputs.{IsByTime, IsFrom, last_time}
use Rattle.dv_bag.specs.declared.inputs.Input.{Input}
use Rattle.dv_inputs.specs.Lines.{fields_of, is_blank, is_passed_over, lines_of, without_return}
use Rattle.dv_inputs.specs.Numbers.{port_in, time_in, value_in}
use Rattle.dv_inputs.specs.Reading.{input_of, on_line, reading_after, reading_of, with_line}
use Rattle.dv_inputs.specs.declared.error.InputRefusalNumber.{InputRefusalNumber}
use Rattle.dv_inputs.specs.Spelled.{CanBeSaid, HasNoFeed, IsField, line_of, name_of, text_of, written_time}
use Rattle.dv_inputs.proofs.Cuts.{fields_behind}
use Rattle.dv_inputs.proofs.Spellings.{field_first, line_then, value_printed}
use Rattle.dv_inputs.proofs.Times.{decimal_without, time_read, time_some, time_utf8, time_without}

-- a byte that no number has
signed_without : (c : ℕ) → (IsInRange 48 57 c → ⊥) → 45 ≢ c → (v : ℤ) → IsTrue (is_number v) → All (λ b. b ≢ c) (signed_decimal v)
signed_without c no_digit no_minus (pos n) h = let lt = ltb-true n (2 ^ 63) h in decimal_without c no_digit n (omega arith)
signed_without c no_digit no_minus (negsuc n) h =
    let lt = ltb-true n (2 ^ 63) h in
    All-cons (λ (b : ℕ). b ≢ c) 45 (decimal (suc n)) no_minus (decimal_without c no_digit (suc n) (omega arith))

no_blank : (bytes : List ℕ) → All (λ b. b ≢ 32) bytes → All (λ b. b ≢ 9) bytes → All (λ b. is_blank b ≡ false) bytes
no_blank bytes h g k d lt = rw (ne_eqb (get_or bytes k d) 32 (h k d lt), ne_eqb (get_or bytes k d) 9 (g k d lt)) refl

signed_some : (v : ℤ) → IsTrue (is_number v) → 0 < length (signed_decimal v)
signed_some (pos n) h = let lt = ltb-true n (2 ^ 63) h in decimal_nonempty n (omega arith)
signed_some (negsuc n) h = omega arith

time_field : (t : Time) → t.tick ≤ greatest_tick → t.micro ≤ greatest_limit → IsField (written_time t)
time_field t tick micro = (
  time_some t tick micro,
  no_blank (written_time t) (time_without t tick micro 32 (λ r. absurd (omega (arith, r))) (λ e. absurd (omega (arith, e))))
      (time_without t tick micro 9 (λ r. absurd (omega (arith, r))) (λ e. absurd (omega (arith, e)))),
)

signed_field : (v : ℤ) → IsTrue (is_number v) → IsField (signed_decimal v)
signed_field v h = (
  signed_some v h,
  no_blank (signed_decimal v)
      (signed_without 32 (λ r. absurd (omega (arith, r))) (λ e. absurd (omega (arith, e))) v h)
      (signed_without 9 (λ r. absurd (omega (arith, r))) (λ e. absurd (omega (arith, e))) v h),
)

signed_utf8 : (v : ℤ) → IsTrue (is_number v) → IsUtf8 (signed_decimal v)
signed_utf8 (pos n) h = let lt = ltb-true n (2 ^ 63) h in IsUtf8-from_ascii (decimal n) (IsAscii-decimal n (omega arith))
signed_utf8 (negsuc n) h =
    let lt = ltb-true n (2 ^ 63) h in
    IsUtf8-from_ascii (45 ∷ decimal (suc n)) (IsAscii-cons 45 (decimal (suc n)) (omega arith) (IsAscii-decimal (suc n) (omega arith)))

-- a line keeps a last byte that is no carriage return
behind_return : (b : ℕ) (bytes : List ℕ) → 0 < length bytes → without_return (b ∷ bytes) ≡ b ∷ without_return bytes
behind_return b [] some = absurd (omega arith)
behind_return b (c ∷ bytes) some = refl

none_returned : (bytes : List ℕ) → All (λ b. b ≢ 13) bytes → without_return bytes ≡ bytes
none_returned [] h = refl
none_returned (b ∷ []) h = rw (ne_eqb b 13 (h 0 b (omega arith))) refl
none_returned (b ∷ c ∷ bytes) h = ap (λ (xs : List ℕ). b ∷ xs) (none_returned (c ∷ bytes) (λ k d lt. h (suc k) d (omega arith)))

kept_behind : (front bytes : List ℕ) → 0 < length bytes → All (λ b. b ≢ 13) bytes → without_return (front ++ bytes) ≡ front ++ bytes
kept_behind [] bytes some h = none_returned bytes h
kept_behind (b ∷ front) bytes some h =
    behind_return b (front ++ bytes) (omega (arith, length-append front bytes))
    ∙ ap (λ (xs : List ℕ). b ∷ xs) (kept_behind front bytes some h)

-- a line that begins with a field and no `#` is not passed over
not_passed : (field rest : List ℕ) → IsField field → All (λ b. b ≢ 35) field → is_passed_over (field ++ rest) ≡ false
not_passed [] rest f h = absurd (omega (arith, f.0))
not_passed (b ∷ field) rest f h = rw (ne_eqb b 35 (h 0 b (omega arith)), f.1 0 b (omega arith)) refl

-- the parts of a line
module _ (ports : List (List ℕ)) (limit : ℕ) (i : Input) (tick : i.time.tick ≤ greatest_tick) (said : CanBeSaid ports limit i) where
  no_feed : HasNoFeed (line_of ports i)
  no_feed =
      let P : ℕ → Type 0 = λ b. b ≢ 10 in
      let time = written_time i.time in
      let name = name_of ports i.port in
      let value = signed_decimal i.value in
      All-append P time (32 ∷ (name ++ (32 ∷ value)))
      (time_without i.time tick said.few 10 (λ r. absurd (omega (arith, r))) (λ e. absurd (omega (arith, e))))
      (All-cons P 32 (name ++ (32 ∷ value)) (λ e. absurd (omega (arith, e)))
      (All-append P name (32 ∷ value) said.name.within_line
      (All-cons P 32 value (λ e. absurd (omega (arith, e)))
      (signed_without 10 (λ r. absurd (omega (arith, r))) (λ e. absurd (omega (arith, e))) i.value said.value))))

  keeps_end : without_return (line_of ports i) ≡ line_of ports i
  keeps_end =
      let time = written_time i.time in
      let name = name_of ports i.port in
      let value = signed_decimal i.value in
      let front = time ++ (32 ∷ (name ++ 32 ∷ [])) in
      let cut : line_of ports i ≡ front ++ value =
      ap (λ (xs : List ℕ). time ++ (32 ∷ xs)) (sym (append_assoc name (32 ∷ []) value))
      ∙ sym (append_assoc time (32 ∷ (name ++ 32 ∷ [])) value) in
      ap without_return cut
      ∙ kept_behind front value (signed_some i.value said.value)
      (signed_without 13 (λ r. absurd (omega (arith, r))) (λ e. absurd (omega (arith, e))) i.value said.value)
      ∙ sym cut

  is_read : is_passed_over (line_of ports i) ≡ false
  is_read =
      not_passed (written_time i.time) (32 ∷ (name_of ports i.port ++ (32 ∷ signed_decimal i.value)))
      (time_field i.time tick said.few)
      (time_without i.time tick said.few 35 (λ r. absurd (omega (arith, r))) (λ e. absurd (omega (arith, e))))

  line_utf8 : is_utf8 (line_of ports i) ≡ true
  line_utf8 =
      let time = written_time i.time in
      let name = name_of ports i.port in
      let value = signed_decimal i.value in
      let blank : IsUtf8 (32 ∷ []) = IsUtf8-from_ascii (32 ∷ []) (IsAscii-cons 32 [] (omega arith) IsAscii-nil) in
      is_utf8-from_IsUtf8 (line_of ports i)
      (IsUtf8-append time (32 ∷ (name ++ (32 ∷ value))) (time_utf8 i.time tick said.few)
      (IsUtf8-append (32 ∷ []) (name ++ (32 ∷ value)) blank
      (IsUtf8-append name (32 ∷ value) said.name.utf8
      (IsUtf8-append (32 ∷ []) value blank (signed_utf8 i.value said.value)))))

  line_fields : fields_of (line_of ports i) ≡ written_time i.time ∷ name_of ports i.port ∷ signed_decimal i.value ∷ []
  line_fields =
      let time = written_time i.time in
      let name = name_of ports i.port in
      let value = signed_decimal i.value in
      let last : fields_of value ≡ value ∷ [] = ap fields_of (sym (append-nil value))
      ∙ field_first value [] (signed_field i.value said.value) tt in
      field_first time (32 ∷ (name ++ (32 ∷ value))) (time_field i.time tick said.few) refl
      ∙ ap (λ (more : List (List ℕ)). time ∷ more)
      (fields_behind 32 (name ++ (32 ∷ value)) refl
      ∙ field_first name (32 ∷ value) said.name.field refl
      ∙ ap (λ (more : List (List ℕ)). name ∷ more) (fields_behind 32 value refl ∙ last))

-- what its tests find
found_input : (find : List ℕ → Option ℕ) (limit : ℕ) (last : Time) (line a b c : List ℕ) (i : Input)
    → fields_of line ≡ a ∷ b ∷ c ∷ [] → time_in a ≡ Some i.time → find b ≡ Some i.port → is_before i.time last ≡ false
    → IsOfRun limit i.time → value_in c ≡ Some i.value → input_of find limit last line ≡ Ok i
found_input find limit last line a b c i fields time port le within value =
    rw (fields, time, port, le, value, le-ltb limit i.time.micro within) refl

one_input : (find : List ℕ → Option ℕ) (limit : ℕ) (done : List Input) (line : List ℕ) (i : Input) → is_passed_over line ≡ false
    → is_utf8 line ≡ true → input_of find limit (last_time done) line ≡ Ok i → with_line find limit done line ≡ Ok (done ++ i ∷ [])
one_input find limit done line i passed utf8 input = rw (passed, utf8, input) refl

last_pushed : (done : List Input) (i : Input) → last_time (done ++ i ∷ []) ≡ i.time
last_pushed [] i = refl
last_pushed (x ∷ []) i = refl
last_pushed (x ∷ y ∷ done) i = last_pushed (y ∷ done) i

read_back : (ports : List (List ℕ)) (limit : ℕ) (inputs done : List Input) (number : ℕ) → IsFrom (last_time done) inputs
    → All (CanBeSaid ports limit) inputs
    → reading_after (port_in ports) limit done number (lines_of (text_of ports inputs)) ≡ Ok (done ++ inputs)
read_back ports limit [] done number h said = ap (λ (is : List Input). Ok is) (sym (append-nil done))
read_back ports limit (i ∷ inputs) done number h said =
    let here : CanBeSaid ports limit i = said 0 i (omega arith) in
    let line = line_of ports i in
    let input = found_input (port_in ports) limit (last_time done) line (written_time i.time) (name_of ports i.port)
    (signed_decimal i.value) i (line_fields ports limit i h.1 here) (time_read i.time h.1 here.few) here.port h.0 here.within
    (value_printed i.value here.value) in
    let one : with_line (port_in ports) limit done (without_return line) ≡ Ok (done ++ i ∷ []) =
    ap (with_line (port_in ports) limit done) (keeps_end ports limit i h.1 here)
    ∙ one_input (port_in ports) limit done line i (is_read ports limit i h.1 here) (line_utf8 ports limit i h.1 here) input in
    ap (reading_after (port_in ports) limit done number) (line_then line (text_of ports inputs) (no_feed ports limit i h.1 here))
    ∙ ap (λ (r : Result (List Input) InputRefusalNumber). on_line number r
    (λ (more : List Input). reading_after (port_in ports) limit more (number + 1) (lines_of (text_of ports inputs)))) one
    ∙ read_back ports limit inputs (done ++ i ∷ []) (number + 1)
    (subst (λ (t : Time). IsFrom t inputs) (sym (last_pushed done i)) h.2) (λ k d lt. said (suc k) d (omega arith))
    ∙ ap (λ (is : List Input). Ok is) (append_assoc done (i ∷ []) inputs)

pub read_as_written : (ports : List (List ℕ)) (limit : ℕ) (inputs : List Input) → IsByTime inputs → All (CanBeSaid ports limit) inputs
    → reading_of (text_of ports inputs) ports limit ≡ Ok inputs
read_as_written ports limit inputs h said = read_back ports limit inputs [] 1 h said
