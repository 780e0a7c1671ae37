-- The values of a bag and of a queue as text.
use Rattle.std.proofs.Common.{◌≡◌, ℕ, zero, suc, ◌+◌, ◌-◌, ◌<◌, ◌≤◌, drop, Bool, true, false, cond, List, [], ◌∷◌, ◌++◌, length}
use Rattle.std.proofs.Common.{get_or, map, replicate, refl, sym, ap, ◌∙◌, append_assoc, append-nil, arith, ℤ}
use Rattle.std.specs.Prelude.{Some, slice_get}
use Rattle.std.proofs.lemmas.List.{at_drop_more, at_drop_all}
use Rattle.std.specs.Fmt.{signed_decimal}
use Rattle.dv_bag.specs.Bag.{Counts, IsBag, IsAbove, values_of}
use Rattle.dv_text.specs.Texts.{numbers_text, values_text, with_commas}
use Rattle.dv_text.specs.Writing.{values_from}
use Rattle.dv_text.proofs.Indices.{left_at}

-- commas between are commas before all but the first
with_commas-from : (vs : List ℤ) → with_commas (map signed_decimal vs) ≡ values_from true vs
with_commas-from [] = refl
with_commas-from (v ∷ []) = sym (append-nil (signed_decimal v))
with_commas-from (v ∷ w ∷ vs) = ap (λ t. signed_decimal v ++ (44 ∷ t)) (with_commas-from (w ∷ vs))

pub values_text-from : (b : Counts) → values_text b ≡ values_from true (values_of b)
values_text-from b = with_commas-from (values_of b)

values_from-append : (vs ws : List ℤ) → values_from false (vs ++ ws) ≡ values_from false vs ++ values_from false ws
values_from-append [] ws = refl
values_from-append (v ∷ vs) ws =
    ap (λ t. 44 ∷ (signed_decimal v ++ t)) (values_from-append vs ws)
    ∙ ap (λ t. 44 ∷ t) (sym (append_assoc (signed_decimal v) (values_from false vs) (values_from false ws)))

-- one more value of a queue
pub queue_step : (line line' whole : List ℕ) (is_first : Bool) (q : List ℤ) (i : ℕ) (v : ℤ) → slice_get q i ≡ Some v →
    line ++ values_from is_first (drop i q) ≡ whole → line' ≡ line ++ (cond is_first [] (44 ∷ []) ++ signed_decimal v) →
    line' ++ values_from false (drop (i + 1) q) ≡ whole
queue_step line line' whole is_first q i v there before more =
    let comma = cond is_first [] (44 ∷ []) in
    let rest = values_from false (drop (i + 1) q) in
    let left = ap (λ vs. line ++ values_from is_first vs) (left_at q i v there) in
    ap (λ t. t ++ rest) more
    ∙ append_assoc line (comma ++ signed_decimal v) rest
    ∙ ap (λ t. line ++ t) (append_assoc comma (signed_decimal v) rest)
    ∙ sym left ∙ before

-- no value is left
pub queue_end : (line start : List ℕ) (is_first : Bool) (q : List ℤ) (i : ℕ) → length q ≤ i →
    line ++ values_from is_first (drop i q) ≡ start ++ values_from true q → line ≡ start ++ numbers_text q
queue_end line start is_first q i past before =
    sym (append-nil line)
    ∙ sym (at_drop_all (λ vs. line ++ values_from is_first vs) q i past)
    ∙ before
    ∙ ap (λ t. start ++ t) (sym (with_commas-from q))

-- some copies of a value, and the values after it
pub values_from-copies : (is_first : Bool) (n : ℕ) (v : ℤ) (vs : List ℤ) → 0 < n →
    values_from is_first (replicate n v ++ vs) ≡ values_from is_first (replicate n v) ++ values_from false vs
values_from-copies is_first zero v vs h = absurd (omega arith)
values_from-copies true (suc n) v vs h =
    ap (λ t. signed_decimal v ++ t) (values_from-append (replicate n v) vs)
    ∙ sym (append_assoc (signed_decimal v) (values_from false (replicate n v)) (values_from false vs))
values_from-copies false (suc n) v vs h =
    ap (λ t. 44 ∷ (signed_decimal v ++ t)) (values_from-append (replicate n v) vs)
    ∙ ap (λ t. 44 ∷ t) (sym (append_assoc (signed_decimal v) (values_from false (replicate n v)) (values_from false vs)))

-- the copies that are left, after one more
pub replicate_left : (n i : ℕ) (v : ℤ) → i < n → replicate (n - i) v ≡ v ∷ replicate (n - (i + 1)) v
replicate_left n i v h = let e : n - i ≡ suc (n - (i + 1)) = omega arith in ap (λ k. replicate k v) e

above_0 : (low : ℤ) (ps : Counts) → IsAbove low ps → (k : ℕ) (d : ℤ × ℕ) → k < length ps → 0 < (get_or ps k d).1
above_0 low [] a k d h = absurd (omega arith)
above_0 low (p ∷ ps) a zero d h = a.1
above_0 low (p ∷ ps) a (suc k) d h = above_0 p.0 ps a.3 k d (omega arith)

-- a bag has no count of 0
pub count_above_0 : (ps : Counts) → IsBag ps → (k : ℕ) (d : ℤ × ℕ) → k < length ps → 0 < (get_or ps k d).1
count_above_0 [] b k d h = absurd (omega arith)
count_above_0 (p ∷ ps) b zero d h = b.0
count_above_0 (p ∷ ps) b (suc k) d h = above_0 p.0 ps b.2 k d (omega arith)

-- one more copy
pub copies_step : (line line' whole : List ℕ) (is_first : Bool) (n i : ℕ) (v : ℤ) → i < n →
    line ++ values_from is_first (replicate (n - i) v) ≡ whole → line' ≡ line ++ (cond is_first [] (44 ∷ []) ++ signed_decimal v) →
    line' ++ values_from false (replicate (n - (i + 1)) v) ≡ whole
copies_step line line' whole is_first n i v h before more =
    let rest = values_from false (replicate (n - (i + 1)) v) in
    let left = ap (λ vs. line ++ values_from is_first vs) (replicate_left n i v h) in
    ap (λ t. t ++ rest) more ∙ append_assoc line (cond is_first [] (44 ∷ []) ++ signed_decimal v) rest ∙ ap (λ t. line ++ t)
    (append_assoc (cond is_first [] (44 ∷ [])) (signed_decimal v) rest) ∙ sym left ∙ before

-- one more pair
pub values_step : (line line' whole : List ℕ) (is_first : Bool) (ps : Counts) → IsBag ps → (k : ℕ) (d : ℤ × ℕ) → k < length ps →
    line ++ values_from is_first (values_of (drop k ps)) ≡ whole →
    line' ≡ line ++ values_from is_first (replicate (get_or ps k d).1 (get_or ps k d).0) →
    line' ++ values_from false (values_of (drop (k + 1) ps)) ≡ whole
values_step line line' whole is_first ps b k d h before more =
    let p = get_or ps k d in
    let rest = values_of (drop (k + 1) ps) in
    let left = at_drop_more (λ xs. line ++ values_from is_first (values_of xs)) ps k d h in
    let copies = ap (λ t. line ++ t) (values_from-copies is_first p.1 p.0 rest (count_above_0 ps b k d h)) in
    ap (λ t. t ++ values_from false rest) more ∙ append_assoc line (values_from is_first (replicate p.1 p.0)) (values_from false rest)
    ∙ sym copies ∙ sym left ∙ before

-- no pair is left
pub values_end : (line whole : List ℕ) (is_first : Bool) (ps : Counts) (k : ℕ) → length ps ≤ k →
    line ++ values_from is_first (values_of (drop k ps)) ≡ whole → line ≡ whole
values_end line whole is_first ps k h before =
    sym (append-nil line) ∙ sym (at_drop_all (λ xs. line ++ values_from is_first (values_of xs)) ps k h) ∙ before

-- what is left of the copies, and of the pairs
pub copies_left : (is_first : Bool) (n i : ℕ) (v : ℤ) → i < n →
    values_from is_first (replicate (n - i) v) ≡ (cond is_first [] (44 ∷ []) ++ signed_decimal v) ++ values_from false
    (replicate (n - (i + 1)) v)
copies_left is_first n i v h =
    ap (values_from is_first) (replicate_left n i v h)
    ∙ sym (append_assoc (cond is_first [] (44 ∷ [])) (signed_decimal v) (values_from false (replicate (n - (i + 1)) v)))

pub values_left : (is_first : Bool) (ps : Counts) → IsBag ps → (k : ℕ) (d : ℤ × ℕ) → k < length ps →
    values_from is_first (values_of (drop k ps)) ≡ values_from is_first (replicate (get_or ps k d).1 (get_or ps k d).0) ++ values_from false
    (values_of (drop (k + 1) ps))
values_left is_first ps b k d h =
    let p = get_or ps k d in
    at_drop_more (λ xs. values_from is_first (values_of xs)) ps k d h ∙ values_from-copies is_first p.1 p.0 (values_of (drop (k + 1) ps))
    (count_above_0 ps b k d h)

pub no_values_left : (is_first : Bool) (ps : Counts) (k : ℕ) → length ps ≤ k → values_from is_first (values_of (drop k ps)) ≡ []
no_values_left is_first ps k h = at_drop_all (λ xs. values_from is_first (values_of xs)) ps k h

pub values_text-pairs : (ps b : Counts) → ps ≡ b → values_from true (values_of ps) ≡ values_text b
values_text-pairs ps b e = ap (λ xs. values_from true (values_of xs)) e ∙ sym (values_text-from b)
