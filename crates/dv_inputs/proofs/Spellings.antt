-- What lines, fields and numbers say that are written out.
use Rattle.std.proofs.Common.{◌≡◌, ◌≢◌, ℕ, suc, ◌+◌, ◌<◌, ◌≤◌, ◌^◌, true, IsTrue, List, [], ◌∷◌, ◌++◌, length, get_or, filter}
use Rattle.std.proofs.Common.{append-nil, nat_lt, ℤ, pos, negsuc, neg_ℤ, Some, None, refl, sym, ap, ◌∙◌, arith}
use Rattle.std.specs.Prelude.{option_map}
use Rattle.std.specs.Char.{is_ascii_digit}
use Rattle.std.specs.Fmt.{decimal, signed_decimal}
use Rattle.std.specs.List.{list_all, onto_first, slice_split}
use Rattle.std.proofs.lemmas.Bool.{and_from, lt-ltb, ltb-true, ne_eqb}
use Rattle.std.proofs.lemmas.Fmt.{decimal_nonempty, digits_decimal, digits_value-decimal}
use Rattle.std.proofs.lemmas.List.Splits.{slice_split_at, slice_split_none}
use Rattle.std.proofs.lemmas.Str.Parse.{not_in_digits}
use Rattle.dv_time.specs.Limits.{greatest_limit, greatest_tick}
use Rattle.dv_bag.specs.Bag.{is_number}
use Rattle.dv_inputs.specs.Lines.{fields_of, is_blank, lines_of, without_return}
use Rattle.dv_inputs.specs.Numbers.{is_numeral, micro_in, number_below, tick_in, value_in}
use Rattle.dv_inputs.specs.Spelled.{EndsField, HasNoFeed, IsBlank, IsField}
use Rattle.dv_inputs.proofs.Cuts.{fields_behind, has_bytes}
use Rattle.dv_inputs.proofs.Digits.{is_above, is_below, numerals}

-- a line before a line feed, and a last one
pub line_then : (line rest : List ℕ) → HasNoFeed line → lines_of (line ++ 10 ∷ rest) ≡ line ∷ lines_of rest
line_then [] rest h = refl
line_then (b ∷ bytes) rest h =
    let more = line_then bytes rest (λ k d lt. h (suc k) d (omega arith)) in
    rw (ne_eqb b 10 (h 0 b (omega arith))) (ap (onto_first b) more)

pub line_last : (line : List ℕ) → HasNoFeed line → 0 < length line → lines_of line ≡ line ∷ []
line_last [] h some = absurd (omega arith)
line_last (b ∷ []) h some = rw (ne_eqb b 10 (h 0 b (omega arith))) refl
line_last (b ∷ c ∷ bytes) h some =
    let more = line_last (c ∷ bytes) (λ k d lt. h (suc k) d (omega arith)) (omega arith) in
    rw (ne_eqb b 10 (h 0 b (omega arith))) (ap (onto_first b) more)

pub one_return : (line : List ℕ) → without_return (line ++ 13 ∷ []) ≡ line
one_return [] = refl
one_return (b ∷ []) = refl
one_return (b ∷ c ∷ bytes) = ap (λ (xs : List ℕ). b ∷ xs) (one_return (c ∷ bytes))

-- blanks, a field, and what follows it
pub blanks_first : (blanks rest : List ℕ) → IsBlank blanks → fields_of (blanks ++ rest) ≡ fields_of rest
blanks_first [] rest h = refl
blanks_first (b ∷ bytes) rest h =
    fields_behind b (bytes ++ rest) (h 0 b (omega arith)) ∙ blanks_first bytes rest (λ k d lt. h (suc k) d (omega arith))

kept : (field : List ℕ) (more : List (List ℕ)) → 0 < length field → filter has_bytes (field ∷ more) ≡ field ∷ filter has_bytes more
kept field more some = rw (lt-ltb 0 (length field) some) refl

pub field_first : (field rest : List ℕ) → IsField field → EndsField rest → fields_of (field ++ rest) ≡ field ∷ fields_of rest
field_first field [] h ends =
    ap fields_of (append-nil field) ∙ ap (filter has_bytes) (slice_split_none is_blank field h.1) ∙ kept field [] h.0
field_first field (b ∷ bytes) h ends =
    ap (filter has_bytes) (slice_split_at is_blank field b bytes h.1 ends)
    ∙ kept field (slice_split is_blank bytes) h.0
    ∙ ap (λ (more : List (List ℕ)). field ∷ more) (sym (fields_behind b bytes ends))

-- numbers as they are printed
numeral_decimal : (n : ℕ) → n < 2 ^ 64 → is_numeral (decimal n) ≡ true
numeral_decimal n small =
    and_from (nat_lt 0 (length (decimal n))) (list_all is_ascii_digit (decimal n))
    (lt-ltb 0 (length (decimal n)) (decimal_nonempty n small)) (digits_decimal numerals n small)

below_decimal : (bound n : ℕ) → n < 2 ^ 64 → n < bound → number_below bound (decimal n) ≡ Some n
below_decimal bound n small lt = sym (is_below bound (decimal n) (numeral_decimal n small) n
    (sym (digits_value-decimal numerals n small)) lt)

pub above_decimal : (bound n : ℕ) → n < 2 ^ 64 → bound ≤ n → number_below bound (decimal n) ≡ None
above_decimal bound n small le = sym (is_above bound (decimal n) (numeral_decimal n small) n
    (sym (digits_value-decimal numerals n small)) le)

pub tick_printed : (n : ℕ) → n ≤ greatest_tick → tick_in (decimal n) ≡ Some n
tick_printed n le = below_decimal (greatest_tick + 1) n (omega arith) (omega arith)

pub micro_printed : (n : ℕ) → n ≤ greatest_limit → micro_in (decimal n) ≡ Some n
micro_printed n le = below_decimal (greatest_limit + 1) n (omega arith) (omega arith)

no_minus : (bytes : List ℕ) → 0 < length bytes → get_or bytes 0 0 ≢ 45 → value_in bytes ≡ option_map pos (number_below (2 ^ 63) bytes)
no_minus [] some h = absurd (omega arith)
no_minus (b ∷ bytes) some h = rw (ne_eqb b 45 h) refl

pub value_printed : (v : ℤ) → IsTrue (is_number v) → value_in (signed_decimal v) ≡ Some v
value_printed (pos n) h =
    let lt : n < 2 ^ 63 = ltb-true n (2 ^ 63) h in
    let small : n < 2 ^ 64 = omega arith in
    no_minus (decimal n) (decimal_nonempty n small)
    (not_in_digits numerals (decimal n) 45 (digits_decimal numerals n small) (λ r. absurd (omega (arith, r))) 0
    (decimal_nonempty n small))
    ∙ ap (option_map pos) (below_decimal (2 ^ 63) n small lt)
value_printed (negsuc n) h =
    let lt : n < 2 ^ 63 = ltb-true n (2 ^ 63) h in
    ap (option_map (λ (k : ℕ). neg_ℤ (pos k))) (below_decimal (2 ^ 63 + 1) (suc n) (omega arith) (omega arith))
