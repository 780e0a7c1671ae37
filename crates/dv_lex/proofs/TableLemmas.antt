-- The table of names: how the numbers of names stay as it grows.
use Rattle.std.proofs.Common.{◌≡◌, ℕ, ◌+◌, ◌<◌, Bool, true, not, cond, ◌||◌, List, [], ◌∷◌, ◌++◌, length, map, Some, ap, refl}
use Rattle.std.proofs.Common.{sym, ◌∙◌, ltb, eqb, arith, bytes_eq, String, string_bytes, string_eq, inl, inr, suc}
use Rattle.std.specs.List.{list_any, position_or_len, position}
use Rattle.std.proofs.lemmas.Option.{cond_some}
use Rattle.std.proofs.lemmas.Bool.{eqb-true, cond_both, or_cases, cond-true, cond-false}
use Rattle.std.proofs.lemmas.Slice.Eq.{bytes_eq-Decides}
use Rattle.std.proofs.lemmas.List.{map-append}
use Rattle.std.proofs.lemmas.List.Folds.{position_or_len_push}
use Rattle.dv_lex.specs.Table.{has_name, with_name, number_of}

pub position_or_len-map : {X Y : Type 0} (p : Y → Bool) (f : X → Y) (xs : List X) →
    position_or_len p (map f xs) ≡ position_or_len (λ x. p (f x)) xs
position_or_len-map p f [] = refl
position_or_len-map p f (x ∷ xs) = ap (λ n. cond (not (p (f x))) (1 + n) 0) (position_or_len-map p f xs)

pub list_any-map : {X Y : Type 0} (p : Y → Bool) (f : X → Y) (xs : List X) → list_any p (map f xs) ≡ list_any (λ x. p (f x)) xs
list_any-map p f [] = refl
list_any-map p f (x ∷ xs) = ap (λ b. p (f x) || b) (list_any-map p f xs)

-- what `position` finds is the offset
pub position_or_len-position : {X : Type 0} (p : X → Bool) (xs : List X) (i : ℕ) → Some i ≡ position p xs → i ≡ position_or_len p xs
position_or_len-position p xs i e = sym ((cond_some (ltb (position_or_len p xs) (length xs)) _ _ (sym e)).1)

pub bytes_eq-same : (t : List ℕ) → bytes_eq t t ≡ true
bytes_eq-same t = (bytes_eq-Decides t t).1 refl

-- a name that is added last has the offset that a search through the names before ends at
pub number_of-push : (names : List (List ℕ)) (t : List ℕ) → number_of (names ++ t ∷ []) t ≡ number_of names t
number_of-push names t =
    position_or_len_push (bytes_eq t) names t ∙ rw bytes_eq-same
    (cond_both (eqb (number_of names t) (length names)) _ _ (λ n. n ≡ number_of names t) (λ e. omega (arith, eqb-true _ _ e)) (λ _. refl))

pub number_of-with_name : (names : List (List ℕ)) (t : List ℕ) → number_of (with_name names t) t ≡ number_of names t
number_of-with_name names t =
    cond_both (has_name names t) names (names ++ t ∷ []) (λ ns. number_of ns t ≡ number_of names t) (λ _. refl)
    (λ _. number_of-push names t)

-- the table is kept as strings: a name is found among them
pub number_of-found : {Z : Type 0} (keys : List (String Z)) (t : List ℕ) (i : ℕ) →
    Some i ≡ position (λ k. bytes_eq t (string_bytes k)) keys → i ≡ number_of (map string_bytes keys) t
number_of-found keys t i e = position_or_len-position _ keys i e ∙ sym (position_or_len-map (bytes_eq t) string_bytes keys)

pub with_name-found : {Z : Type 0} (keys : List (String Z)) (t : List ℕ) → true ≡ list_any (λ k. bytes_eq t (string_bytes k)) keys →
    map string_bytes keys ≡ with_name (map string_bytes keys) t
with_name-found keys t e =
    sym (cond-true (has_name (map string_bytes keys) t) _ _ (list_any-map (bytes_eq t) string_bytes keys ∙ sym e))

-- or it is added
pub number_of-added : {Z : Type 0} (keys : List (String Z)) (s : String Z) (t : List ℕ) → string_bytes s ≡ t →
    position_or_len (string_eq s) keys ≡ number_of (with_name (map string_bytes keys) t) t
number_of-added keys s t e =
    rw (← e) (sym (number_of-with_name (map string_bytes keys) (string_bytes s) ∙ position_or_len-map
    (bytes_eq (string_bytes s)) string_bytes keys))

pub with_name-added : {Z : Type 0} (keys : List (String Z)) (s : String Z) (t : List ℕ) → string_bytes s ≡ t →
    map string_bytes (cond (list_any (string_eq s) keys) keys (keys ++ s ∷ [])) ≡ with_name (map string_bytes keys) t
with_name-added keys s t e =
    rw (← e, list_any-map (bytes_eq (string_bytes s)) string_bytes keys)
    (cond_both (list_any (string_eq s) keys) keys (keys ++ s ∷ [])
    (λ ks. map string_bytes ks ≡ cond (list_any (string_eq s) keys) (map string_bytes keys)
    (map string_bytes keys ++ string_bytes s ∷ [])) (λ h. sym (cond-true _ _ _ h))
    (λ h. map-append string_bytes keys (s ∷ []) ∙ sym (cond-false _ _ _ h)))

-- the number of a name that is there is an index in the table
pub number_of-lt : (names : List (List ℕ)) (t : List ℕ) → has_name names t ≡ true → number_of names t < length names
number_of-lt [] t h = cc
number_of-lt (n ∷ names) t h =
    elim (or_cases (bytes_eq t n) (has_name names t) h) [
      | inl e ↦ rw e (omega arith)
      | inr e ↦
          cond_both (not (bytes_eq t n)) (1 + number_of names t) 0 (λ k. k < suc (length names))
          (λ _. omega (arith, number_of-lt names t e)) (λ _. omega arith)
    ]
