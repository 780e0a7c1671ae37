-- Texts cut into lines, and lines into fields.
use Rattle.std.proofs.Common.{◌≡◌, inl, inr, ℕ, suc, ◌+◌, ◌-◌, ◌<◌, ◌≤◌, ◌==◌, Bool, true, false, not, cond, List, [], ◌∷◌}
use Rattle.std.proofs.Common.{length, get_or, take, drop, filter, refl, sym, ap, ◌∙◌, subst, arith, nat_lt, Some, None, position}
use Rattle.std.specs.List.{onto_first, position_or_len, prefix_len, slice_split, take_while}
use Rattle.std.proofs.lemmas.Bool.{cases_Bool, eq-eqb, lt-ltb, ltb-false, ltb-true, ne_eqb}
use Rattle.std.proofs.lemmas.List.Folds.{length-prefix_len}
use Rattle.dv_inputs.specs.Lines.{fields_of, is_blank, lines_of, without_return}

one_more : (n : ℕ) → 1 + n ≡ suc n
one_more n = omega arith

abbrev pub is_feed : ℕ → Bool
is_feed b = b == 10

-- the first line ends at the first line feed
pub first_line : (text : List ℕ) → position_or_len is_feed text < length text
    → lines_of text ≡ take (position_or_len is_feed text) text ∷ lines_of (drop (position_or_len is_feed text + 1) text)
first_line [] h = absurd (omega arith)
first_line (b ∷ bytes) h = step (b == 10) h (first_line bytes)
  where
    step : (t : Bool) → cond (not t) (1 + position_or_len is_feed bytes) 0 < length (b ∷ bytes)
        → (position_or_len is_feed bytes < length bytes → lines_of bytes ≡ take (position_or_len is_feed bytes) bytes ∷ lines_of
        (drop (position_or_len is_feed bytes + 1) bytes))
        → cond t ([] ∷ lines_of bytes) (onto_first b (lines_of bytes))
        ≡ take (cond (not t) (1 + position_or_len is_feed bytes) 0) (b ∷ bytes) ∷ lines_of
        (drop (cond (not t) (1 + position_or_len is_feed bytes) 0 + 1) (b ∷ bytes))
    step true h rest = refl
    step false h rest =
        let n = position_or_len is_feed bytes in
        let past : 1 + n + 1 ≡ suc (n + 1) = omega arith in
        rw (past, one_more n) (ap (onto_first b) (rest (omega arith)))

-- a text with no line feed is one line
pub only_line : (text : List ℕ) → length text ≤ position_or_len is_feed text → 0 < length text → lines_of text ≡ text ∷ []
only_line [] h some = absurd (omega arith)
only_line (b ∷ []) h some = step (b == 10) h
  where
    step : (t : Bool) → 1 ≤ cond (not t) (1 + 0) 0 → cond t ([] ∷ []) ((b ∷ []) ∷ []) ≡ (b ∷ []) ∷ []
    step true h = absurd (omega arith)
    step false h = refl
only_line (b ∷ c ∷ bytes) h some = step (b == 10) h (only_line (c ∷ bytes))
  where
    step : (t : Bool) → length (b ∷ c ∷ bytes) ≤ cond (not t) (1 + position_or_len is_feed (c ∷ bytes)) 0
        → (length (c ∷ bytes) ≤ position_or_len is_feed (c ∷ bytes) → 0 < length (c ∷ bytes) → lines_of (c ∷ bytes) ≡ (c ∷ bytes) ∷ [])
        → cond t ([] ∷ lines_of (c ∷ bytes)) (onto_first b (lines_of (c ∷ bytes))) ≡ (b ∷ c ∷ bytes) ∷ []
    step true h rest = absurd (omega arith)
    step false h rest = ap (onto_first b) (rest (omega arith) (omega arith))

-- a carriage return at the end goes
pub return_dropped : (line : List ℕ) → 1 ≤ length line → get_or line (length line - 1) 0 ≡ 13
    → take (length line - 1) line ≡ without_return line
return_dropped [] some h = absurd (omega arith)
return_dropped (b ∷ []) some h = rw (eq-eqb b 13 h) refl
return_dropped (b ∷ c ∷ bytes) some h =
    let n : length (b ∷ c ∷ bytes) - 1 ≡ suc (length (c ∷ bytes) - 1) = omega arith in
    rw n (ap (λ (xs : List ℕ). b ∷ xs) (return_dropped (c ∷ bytes) (omega arith) (subst (λ (k : ℕ). get_or (b ∷ c ∷ bytes) k 0 ≡ 13) n h)))

pub no_return : (line : List ℕ) → (1 ≤ length line → get_or line (length line - 1) 0 ≡ 13 → ⊥) → line ≡ without_return line
no_return [] h = refl
no_return (b ∷ []) h = rw (ne_eqb b 13 (h (omega arith))) refl
no_return (b ∷ c ∷ bytes) h =
    let n : length (b ∷ c ∷ bytes) - 1 ≡ suc (length (c ∷ bytes) - 1) = omega arith in
    ap (λ (xs : List ℕ). b ∷ xs) (no_return (c ∷ bytes)
    (λ some e. h (omega arith) (subst (λ (k : ℕ). get_or (b ∷ c ∷ bytes) k 0 ≡ 13) (sym n) e)))

-- blanks in front say nothing
abbrev pub is_other : ℕ → Bool
is_other b = not (is_blank b)

pub fields_behind : (b : ℕ) (bytes : List ℕ) → is_blank b ≡ true → fields_of (b ∷ bytes) ≡ fields_of bytes
fields_behind b bytes h = rw h refl

pub fields_from : (line : List ℕ) → fields_of (drop (position_or_len is_other line) line) ≡ fields_of line
fields_from [] = refl
fields_from (b ∷ bytes) = elim (cases_Bool (is_blank b)) [
  | inl blank ↦
      let n : position_or_len is_other (b ∷ bytes) ≡ suc (position_or_len is_other bytes) =
      rw blank (one_more (position_or_len is_other bytes)) in
      rw n (fields_from bytes ∙ sym (fields_behind b bytes blank))
  | inr other ↦
      let n : position_or_len is_other (b ∷ bytes) ≡ 0 = rw other refl in
      ap (λ (k : ℕ). fields_of (drop k (b ∷ bytes))) n
]

pub no_field : (line : List ℕ) → length line ≤ position_or_len is_other line → fields_of line ≡ []
no_field [] h = refl
no_field (b ∷ bytes) h = elim (cases_Bool (is_blank b)) [
  | inl blank ↦
      let n : position_or_len is_other (b ∷ bytes) ≡ suc (position_or_len is_other bytes) =
      rw blank (one_more (position_or_len is_other bytes)) in
      fields_behind b bytes blank ∙ no_field bytes (omega arith)
  | inr other ↦
      let n : position_or_len is_other (b ∷ bytes) ≡ 0 = rw other refl in
      absurd (omega arith)
]

-- a field ends at the next blank
abbrev pub has_bytes : List ℕ → Bool
has_bytes field = nat_lt 0 (length field)

parts_behind : List ℕ → List (List ℕ)
parts_behind [] = []
parts_behind (b ∷ bytes) = slice_split is_blank bytes

first_part : (line : List ℕ) → slice_split is_blank line ≡ take (prefix_len is_other line) line ∷ parts_behind
    (drop (prefix_len is_other line) line)
unfolding parts_behind
first_part [] = refl
first_part (b ∷ bytes) = step (is_blank b) (first_part bytes)
  where
    step : (t : Bool) → slice_split is_blank bytes ≡ take (prefix_len is_other bytes) bytes ∷ parts_behind
        (drop (prefix_len is_other bytes) bytes)
        → cond t ([] ∷ slice_split is_blank bytes) (onto_first b (slice_split is_blank bytes))
        ≡ take (cond (not t) (1 + prefix_len is_other bytes) 0) (b ∷ bytes) ∷ parts_behind
        (drop (cond (not t) (1 + prefix_len is_other bytes) 0) (b ∷ bytes))
    step true rest = refl
    step false rest = rw (one_more (prefix_len is_other bytes)) (ap (onto_first b) rest)

other_fields : (line : List ℕ) → filter has_bytes (parts_behind (drop (prefix_len is_other line) line)) ≡ fields_of
    (drop (prefix_len is_other line) line)
unfolding parts_behind
other_fields [] = refl
other_fields (b ∷ bytes) = elim (cases_Bool (is_blank b)) [
  | inl blank ↦
      let n : prefix_len is_other (b ∷ bytes) ≡ 0 = rw blank refl in
      rw n (sym (fields_behind b bytes blank))
  | inr other ↦
      let n : prefix_len is_other (b ∷ bytes) ≡ suc (prefix_len is_other bytes) = rw other (one_more (prefix_len is_other bytes)) in
      rw n (other_fields bytes)
]

-- what is found of a line that has a field
begins_other : (line : List ℕ) → position_or_len is_other line < length line
    → 0 < prefix_len is_other (drop (position_or_len is_other line) line)
begins_other [] h = absurd (omega arith)
begins_other (b ∷ bytes) h = elim (cases_Bool (is_blank b)) [
  | inl blank ↦
      let n : position_or_len is_other (b ∷ bytes) ≡ suc (position_or_len is_other bytes) =
      rw blank (one_more (position_or_len is_other bytes)) in
      rw n (begins_other bytes (omega arith))
  | inr other ↦
      let n : position_or_len is_other (b ∷ bytes) ≡ 0 = rw other refl in
      let k : prefix_len is_other (b ∷ bytes) ≡ suc (prefix_len is_other bytes) = rw other (one_more (prefix_len is_other bytes)) in
      rw (n, k) (omega arith)
]

one_field : (rest : List ℕ) → 0 < prefix_len is_other rest
    → fields_of rest ≡ take (prefix_len is_other rest) rest ∷ fields_of (drop (prefix_len is_other rest) rest)
one_field rest some =
    let long = length-prefix_len is_other rest in
    let has : has_bytes (take (prefix_len is_other rest) rest) ≡ true =
    lt-ltb 0 (length (take (prefix_len is_other rest) rest)) (omega arith) in
    ap (filter has_bytes) (first_part rest)
    ∙ ap (λ (t : Bool). cond t (take (prefix_len is_other rest) rest ∷ filter has_bytes
    (parts_behind (drop (prefix_len is_other rest) rest)))
    (filter has_bytes (parts_behind (drop (prefix_len is_other rest) rest)))) has
    ∙ ap (λ (more : List (List ℕ)). take (prefix_len is_other rest) rest ∷ more) (other_fields rest)

pub first_field : (line rest : List ℕ) (offset n : ℕ) → offset ≡ position_or_len is_other line
    → position_or_len is_other line < length line → rest ≡ drop offset line → n ≡ length (take_while is_other rest)
    → fields_of line ≡ take n rest ∷ fields_of (drop n rest)
first_field line rest offset n at within from long =
    let whole : rest ≡ drop (position_or_len is_other line) line = from ∙ ap (λ (k : ℕ). drop k line) at in
    let some : 0 < prefix_len is_other rest = subst (λ (r : List ℕ). 0 < prefix_len is_other r) (sym whole) (begins_other line within) in
    let m : prefix_len is_other rest ≡ n = sym (long ∙ length-prefix_len is_other rest) in
    sym (fields_from line) ∙ ap fields_of (sym whole) ∙ one_field rest some ∙ ap (λ (k : ℕ). take k rest ∷ fields_of (drop k rest)) m

-- what `position` finds
module _ {X : Type 0} (p : X → Bool) (xs : List X) where
  position_found : (t : Bool) (i : ℕ) → nat_lt (position_or_len p xs) (length xs) ≡ t
      → Some i ≡ cond t (Some (position_or_len p xs)) None → (i ≡ position_or_len p xs) × (position_or_len p xs < length xs)
  position_found true i test e = (cc, ltb-true (position_or_len p xs) (length xs) test)
  position_found false i test e = cc

  position_missed : (t : Bool) → nat_lt (position_or_len p xs) (length xs) ≡ t → None ≡ cond t (Some (position_or_len p xs)) None
      → length xs ≤ position_or_len p xs
  position_missed true test e = cc
  position_missed false test e = ltb-false (position_or_len p xs) (length xs) test

  pub found : (i : ℕ) → Some i ≡ position p xs → (i ≡ position_or_len p xs) × (position_or_len p xs < length xs)
  found i e = position_found (nat_lt (position_or_len p xs) (length xs)) i refl e

  pub missed : None ≡ position p xs → length xs ≤ position_or_len p xs
  missed e = position_missed (nat_lt (position_or_len p xs) (length xs)) refl e
