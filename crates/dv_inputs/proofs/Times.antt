-- What a field says that has a dot or none, and times as they stand in a line.
use Rattle.std.proofs.Common.{◌≡◌, ◌≢◌, ℕ, suc, ◌+◌, ◌<◌, ◌≤◌, ◌^◌, ◌==◌, Bool, true, false, cond, nat_lt, All, IsUtf8}
use Rattle.std.proofs.Common.{List, [], ◌∷◌, ◌++◌, length, take, drop, length-append, Option, Some, None, position}
use Rattle.std.proofs.Common.{refl, sym, ap, ◌∙◌, subst, arith}
use Rattle.std.specs.Prelude.{option_map}
use Rattle.std.specs.Char.{is_ascii_digit}
use Rattle.std.specs.Fmt.{decimal}
use Rattle.std.specs.Int.{IsInRange}
use Rattle.std.specs.List.{list_all, position_or_len}
use Rattle.std.proofs.Math.Seq.{drop-append-add, take-append_seam}
use Rattle.std.proofs.lemmas.Bool.{and_parts, eqb-true, le-ltb, lt-ltb, ne_eqb}
use Rattle.std.proofs.lemmas.Fmt.{IsAscii-decimal, decimal_nonempty, digits_decimal}
use Rattle.std.proofs.lemmas.Grind.{get_or_default_zero}
use Rattle.std.proofs.lemmas.List.Elements.{All-append, All-cons}
use Rattle.std.proofs.lemmas.Str.{IsUtf8-append, IsUtf8-from_ascii}
use Rattle.std.proofs.lemmas.Str.Ascii.{IsAscii-cons}
use Rattle.std.proofs.lemmas.Str.Parse.{not_in_digits}
use Rattle.dv_time.specs.Limits.{greatest_limit, greatest_tick}
use Rattle.dv_time.specs.Time.{time_text}
use Rattle.dv_time.specs.declared.time.Time.{Time}
use Rattle.dv_bag.specs.Inputs.{start_of}
use Rattle.dv_inputs.specs.Numbers.{is_dot, is_numeral, micro_in, tick_in, time_by_dot, time_in, time_of_parts}
use Rattle.dv_inputs.specs.Spelled.{written_time}
use Rattle.dv_inputs.proofs.Digits.{number_found, numerals}
use Rattle.dv_inputs.proofs.Spellings.{above_decimal, micro_printed, tick_printed}

-- the first dot of a field
one_more : (n : ℕ) → 1 + n ≡ suc n
one_more n = omega arith

no_dot_offset : (bytes : List ℕ) → All (λ b. b ≢ 46) bytes → position_or_len is_dot bytes ≡ length bytes
no_dot_offset [] h = refl
no_dot_offset (b ∷ bytes) h =
    let more = no_dot_offset bytes (λ k d lt. h (suc k) d (omega arith)) in
    rw (ne_eqb b 46 (h 0 b (omega arith))) (one_more (position_or_len is_dot bytes) ∙ ap (λ (n : ℕ). suc n) more)

dot_offset : (front rest : List ℕ) → All (λ b. b ≢ 46) front → position_or_len is_dot (front ++ 46 ∷ rest) ≡ length front
dot_offset [] rest h = refl
dot_offset (b ∷ front) rest h =
    let more = dot_offset front rest (λ k d lt. h (suc k) d (omega arith)) in
    rw (ne_eqb b 46 (h 0 b (omega arith))) (one_more (position_or_len is_dot (front ++ 46 ∷ rest)) ∙ ap (λ (n : ℕ). suc n) more)

without_dot : (bytes : List ℕ) → All (λ b. b ≢ 46) bytes → position is_dot bytes ≡ None
without_dot bytes h = rw (no_dot_offset bytes h, le-ltb (length bytes) (length bytes) (omega arith)) refl

at_dot : (front rest : List ℕ) → All (λ b. b ≢ 46) front → position is_dot (front ++ 46 ∷ rest) ≡ Some (length front)
at_dot front rest h =
    let lt : length front < length (front ++ 46 ∷ rest) = omega (arith, length-append front (46 ∷ rest)) in
    rw (dot_offset front rest h, lt-ltb (length front) (length (front ++ 46 ∷ rest)) lt) refl

-- a byte that no number has
module _ (c : ℕ) (no_digit : IsInRange 48 57 c → ⊥) where
  digits_without : (bytes : List ℕ) → list_all is_ascii_digit bytes ≡ true → All (λ b. b ≢ c) bytes
  digits_without bytes h k d lt =
      subst (λ (b : ℕ). b ≢ c) (sym (get_or_default_zero bytes k d lt)) (not_in_digits numerals bytes c h no_digit k lt)

  pub decimal_without : (n : ℕ) → n < 2 ^ 64 → All (λ b. b ≢ c) (decimal n)
  decimal_without n small = digits_without (decimal n) (digits_decimal numerals n small)

-- a tick alone
numeral_without_dot : (bytes : List ℕ) → is_numeral bytes ≡ true → All (λ b. b ≢ 46) bytes
numeral_without_dot bytes h =
    digits_without 46 (λ r. absurd (omega (arith, r))) bytes
    ((and_parts (nat_lt 0 (length bytes)) (list_all is_ascii_digit bytes) h).1)

pub tick_alone : (field : List ℕ) (tick : ℕ) → tick_in field ≡ Some tick → time_in field ≡ Some (start_of tick)
tick_alone field tick e =
    let none = without_dot field (numeral_without_dot field ((number_found (greatest_tick + 1) field tick e).0)) in
    ap (time_by_dot field) none ∙ ap (option_map start_of) e

-- a tick and a microstep
parts_read : (tick micro : List ℕ) → All (λ b. b ≢ 46) tick → time_in (tick ++ 46 ∷ micro) ≡ time_of_parts (tick_in tick) (micro_in micro)
parts_read tick micro h =
    ap (time_by_dot (tick ++ 46 ∷ micro)) (at_dot tick micro h)
    ∙ rw (take-append_seam tick (46 ∷ micro), drop-append-add tick (46 ∷ micro) 1) refl

pub time_printed : (t : Time) → t.tick ≤ greatest_tick → t.micro ≤ greatest_limit → time_in (time_text t) ≡ Some t
time_printed t tick micro =
    parts_read (decimal t.tick) (decimal t.micro) (decimal_without 46 (λ r. absurd (omega (arith, r))) t.tick (omega arith))
    ∙ rw (tick_printed t.tick tick, micro_printed t.micro micro) refl

-- a tick and a microstep that are too great are none
pub tick_above : (tick : ℕ) → greatest_tick < tick → tick < 2 ^ 64 → tick_in (decimal tick) ≡ None
tick_above tick lt small = above_decimal (greatest_tick + 1) tick small (omega arith)

pub micro_above : (t : Time) → greatest_limit < t.micro → t.tick < 2 ^ 64 → t.micro < 2 ^ 64 → time_in (time_text t) ≡ None
micro_above t lt tick micro =
    parts_read (decimal t.tick) (decimal t.micro) (decimal_without 46 (λ r. absurd (omega (arith, r))) t.tick tick)
    ∙ ap (time_of_parts (tick_in (decimal t.tick))) (above_decimal (greatest_limit + 1) t.micro micro (omega arith))
    ∙ no_micro (tick_in (decimal t.tick))
  where
    no_micro : (o : Option ℕ) → time_of_parts o None ≡ None
    no_micro (Some tick) = refl
    no_micro None = refl

-- the tick of a time that is found
parts_tick : (tick micro : Option ℕ) (t : Time) → time_of_parts tick micro ≡ Some t → tick ≡ Some t.tick
parts_tick (Some tick) (Some micro) t e =
    let same : record { tick = tick; micro = micro } ≡ t = cc in ap (λ (u : Time). Some u.tick) same
parts_tick (Some tick) None t e = cc
parts_tick None micro t e = cc

start_tick : (tick : Option ℕ) (t : Time) → option_map start_of tick ≡ Some t → tick ≡ Some t.tick
start_tick (Some tick) t e = let same : start_of tick ≡ t = cc in ap (λ (u : Time). Some u.tick) same
start_tick None t e = cc

pub found_tick : (field : List ℕ) (t : Time) → time_in field ≡ Some t → t.tick ≤ greatest_tick
found_tick field t e = step (position is_dot field) e
  where
    below : (digits : List ℕ) → tick_in digits ≡ Some t.tick → t.tick ≤ greatest_tick
    below digits found = omega (arith, (number_found (greatest_tick + 1) digits t.tick found).1)

    step : (dot : Option ℕ) → time_by_dot field dot ≡ Some t → t.tick ≤ greatest_tick
    step None e = below field (start_tick (tick_in field) t e)
    step (Some dot) e = below (take dot field) (parts_tick (tick_in (take dot field)) (micro_in (drop (dot + 1) field)) t e)

-- what holds of a tick alone, and with its microstep, holds of the time as it stands in a line
of_written : (P : List ℕ → Type 0) (t : Time) → P (decimal t.tick) → P (time_text t) → P (written_time t)
of_written P t alone both = step (t.micro == 0)
  where
    step : (start : Bool) → P (cond start (decimal t.tick) (time_text t))
    step true = alone
    step false = both

-- the time of a line
module _ (t : Time) (tick : t.tick ≤ greatest_tick) (micro : t.micro ≤ greatest_limit) where
  pub time_without : (c : ℕ) → (IsInRange 48 57 c → ⊥) → 46 ≢ c → All (λ b. b ≢ c) (written_time t)
  time_without c no_digit no_dot =
      let P : ℕ → Type 0 = λ b. b ≢ c in
      let front = decimal_without c no_digit t.tick (omega arith) in
      of_written (All P) t front
      (All-append P (decimal t.tick) (46 ∷ decimal t.micro) front
      (All-cons P 46 (decimal t.micro) no_dot (decimal_without c no_digit t.micro (omega arith))))

  pub time_some : 0 < length (written_time t)
  time_some =
      of_written (λ (bytes : List ℕ). 0 < length bytes) t (decimal_nonempty t.tick (omega arith))
      (omega (arith, length-append (decimal t.tick) (46 ∷ decimal t.micro)))

  pub time_utf8 : IsUtf8 (written_time t)
  time_utf8 =
      let front = IsAscii-decimal t.tick (omega arith) in
      let back = IsAscii-cons 46 (decimal t.micro) (omega arith) (IsAscii-decimal t.micro (omega arith)) in
      of_written IsUtf8 t (IsUtf8-from_ascii (decimal t.tick) front)
      (IsUtf8-append (decimal t.tick) (46 ∷ decimal t.micro) (IsUtf8-from_ascii (decimal t.tick) front)
      (IsUtf8-from_ascii (46 ∷ decimal t.micro) back))

  pub time_read : time_in (written_time t) ≡ Some t
  time_read = step (t.micro == 0) refl
    where
      step : (start : Bool) → (t.micro == 0) ≡ start → time_in (cond start (decimal t.tick) (time_text t)) ≡ Some t
      step true e =
          let made : ℕ → Option Time = λ m. Some (record { tick = t.tick; micro = m }) in
          tick_alone (decimal t.tick) t.tick (tick_printed t.tick tick) ∙ ap made (sym (eqb-true t.micro 0 e))
      step false e = time_printed t tick micro
