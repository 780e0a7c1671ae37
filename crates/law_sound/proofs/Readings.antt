-- The values of inputs that were read are numbers of the language.
use Rattle.std.proofs.Common.{◌≡◌, ℕ, zero, suc, ◌+◌, ◌<◌, ◌^◌, All, Bool, true, false, ◌&&◌, ◌==◌, cond, nat_lt, List, [], ◌∷◌}
use Rattle.std.proofs.Common.{Option, Some, None, Ok, ℤ, pos, neg_ℤ, refl, subst, arith}
use Rattle.std.specs.Prelude.{option_map}
use Rattle.std.specs.Str.Parse.{digits_value}
use Rattle.std.proofs.lemmas.Bool.{and_parts, lt-ltb, ltb-true}
use Rattle.dv_bag.specs.Bag.{is_number}
use Rattle.dv_bag.specs.declared.inputs.Input.{Input}
use Rattle.dv_inputs.specs.Lines.{lines_of}
use Rattle.dv_inputs.specs.Numbers.{is_numeral, number_below, port_in, value_in}
use Rattle.dv_inputs.specs.Reading.{reading_of}
use Rattle.dv_inputs.proofs.Ranges.{Said, lines_inputs}
use Rattle.law_sound.specs.Jobs.{AllInputNumbers}

-- what a field says
below_bound : (bound : ℕ) (bytes : List ℕ) (n : ℕ) → number_below bound bytes ≡ Some n → n < bound
below_bound bound bytes n e = by_test (is_numeral bytes && nat_lt (digits_value 10 bytes) bound) refl e
  where
    by_test : (t : Bool) → (is_numeral bytes && nat_lt (digits_value 10 bytes) bound) ≡ t →
        cond t (Some (digits_value 10 bytes)) None ≡ Some n → n < bound
    by_test true small e =
        let parts = and_parts (is_numeral bytes) (nat_lt (digits_value 10 bytes) bound) small in
        let same : digits_value 10 bytes ≡ n = cc in
        subst (λ (k : ℕ). k < bound) same (ltb-true (digits_value 10 bytes) bound parts.1)
    by_test false small e = absurd (cc)

negative_number : (n : ℕ) → n < 2 ^ 63 + 1 → is_number (neg_ℤ (pos n)) ≡ true
negative_number zero lt = refl
negative_number (suc k) lt = lt-ltb k (2 ^ 63) (omega arith)

mapped : (f : ℕ → ℤ) (bound : ℕ) (o : Option ℕ) (v : ℤ) → ((n : ℕ) → o ≡ Some n → n < bound) →
    ((n : ℕ) → n < bound → is_number (f n) ≡ true) → option_map f o ≡ Some v → is_number v ≡ true
mapped f bound None v small numbers e = absurd (cc)
mapped f bound (Some n) v small numbers e =
    let same : f n ≡ v = cc in subst (λ (w : ℤ). is_number w ≡ true) same (numbers n (small n refl))

value_number : (field : List ℕ) (v : ℤ) → value_in field ≡ Some v → is_number v ≡ true
value_number [] v e = absurd (cc)
value_number (b ∷ bytes) v e = by_sign (b == 45) e
  where
    by_sign : (t : Bool) → cond t (option_map (λ n. neg_ℤ (pos n)) (number_below (2 ^ 63 + 1) bytes))
        (option_map pos (number_below (2 ^ 63) (b ∷ bytes))) ≡ Some v → is_number v ≡ true
    by_sign true e =
        mapped (λ n. neg_ℤ (pos n)) (2 ^ 63 + 1) (number_below (2 ^ 63 + 1) bytes) v (below_bound (2 ^ 63 + 1) bytes) negative_number e
    by_sign false e =
        mapped pos (2 ^ 63) (number_below (2 ^ 63) (b ∷ bytes)) v (below_bound (2 ^ 63) (b ∷ bytes))
        (λ n lt. lt-ltb n (2 ^ 63) lt) e

number_said : (find : List ℕ → Option ℕ) (limit : ℕ) (i : Input) → Said find limit i → is_number i.value ≡ true
number_said find limit i said = value_number said.text i.value said.value

all_numbers : (inputs : List Input) → All (λ (i : Input). is_number i.value ≡ true) inputs → AllInputNumbers inputs
all_numbers [] h = tt
all_numbers (i ∷ inputs) h = (h 0 i (omega arith), all_numbers inputs (λ k d lt. h (suc k) d (omega (arith, lt))))

pub read_numbers : (text : List ℕ) (ports : List (List ℕ)) (limit : ℕ) (inputs : List Input) → reading_of text ports limit ≡ Ok inputs →
    AllInputNumbers inputs
read_numbers text ports limit inputs e =
    all_numbers inputs
    (lines_inputs (port_in ports) limit (λ (i : Input). is_number i.value ≡ true) (number_said (port_in ports) limit)
    (lines_of text) [] 1 inputs (λ k d lt. absurd (omega (arith, lt))) e)
