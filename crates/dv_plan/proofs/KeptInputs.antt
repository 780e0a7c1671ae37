-- Inputs that are kept of inputs whose times never fall.
use Rattle.std.proofs.Common.{◌≡◌, ℕ, ◌+◌, ◌<◌, ◌≤◌, Bool, true, false, cond, List, [], ◌∷◌, ◌++◌, length, drop, filter, get_or}
use Rattle.std.proofs.Common.{ap, sym, ◌∙◌, subst, arith}
use Rattle.std.proofs.lemmas.List.{at_drop_more}
use Rattle.std.proofs.lemmas.Bool.Decides.{nat_tests}
use Rattle.dv_time.specs.Limits.{greatest_tick}
use Rattle.dv_time.specs.Time.{is_before}
use Rattle.dv_time.specs.declared.time.Time.{Time}
use Rattle.dv_bag.specs.Inputs.{IsFrom, last_time, start_of}
use Rattle.dv_bag.specs.declared.inputs.Input.{Input}
use Rattle.dv_bag.proofs.InputLists.{not_sooner}

first_of : (low : Time) (x : Input) (xs : List Input) → IsFrom low (x ∷ xs) → is_before x.time low ≡ false
first_of low x xs h = h.0

small_of : (low : Time) (x : Input) (xs : List Input) → IsFrom low (x ∷ xs) → x.time.tick ≤ greatest_tick
small_of low x xs h = h.1

rest_of : (low : Time) (x : Input) (xs : List Input) → IsFrom low (x ∷ xs) → IsFrom x.time xs
rest_of low x xs h = h.2

lower : (low high : Time) (xs : List Input) → is_before high low ≡ false → IsFrom high xs → IsFrom low xs
lower low high [] le h = tt
lower low high (x ∷ xs) le h = (not_sooner low high x.time le h.0, h.1, h.2)

kept_from : (test : Input → Bool) (low : Time) (xs : List Input) → IsFrom low xs → IsFrom low (filter test xs)
kept_from test low [] h = tt
kept_from test low (x ∷ xs) h = by_test (test x) (kept_from test x.time xs h.2)
  where
    by_test : (b : Bool) → IsFrom x.time (filter test xs) → IsFrom low (cond b (x ∷ filter test xs) (filter test xs))
    by_test true rest = (h.0, h.1, rest)
    by_test false rest = lower low x.time (filter test xs) h.0 rest

never_before : (t : Time) → is_before t (start_of 0) ≡ false
never_before t = grind (arith, nat_tests)

last_before : (low : Time) (xs : List Input) (y : Input) (ys : List Input) → IsFrom low (xs ++ y ∷ ys)
    → is_before y.time (last_time xs) ≡ false
last_before low [] y ys h = never_before y.time
last_before low (x ∷ []) y ys h = first_of x.time y ys (rest_of low x (y ∷ ys) h)
last_before low (x ∷ z ∷ xs) y ys h = last_before x.time (z ∷ xs) y ys (rest_of low x (z ∷ (xs ++ y ∷ ys)) h)

small_at : (low : Time) (xs : List Input) (y : Input) (ys : List Input) → IsFrom low (xs ++ y ∷ ys) → y.time.tick ≤ greatest_tick
small_at low [] y ys h = small_of low y ys h
small_at low (x ∷ xs) y ys h = small_at x.time xs y ys (rest_of low x (xs ++ y ∷ ys) h)

-- one more that passes comes after those that are kept
module _ (test : Input → Bool) (xs kept : List Input) (i : ℕ) (d x : Input) (lt : i < length xs) (at : get_or xs i d ≡ x)
    (passes : test x ≡ true)
    (so_far : kept ++ filter test (drop i xs) ≡ filter test xs) (from : IsFrom (start_of 0) xs) where
  all_from : IsFrom (start_of 0) (kept ++ x ∷ filter test (drop (i + 1) xs))
  all_from =
      let rest = drop (i + 1) xs in
      subst (IsFrom (start_of 0))
      (sym so_far
      ∙ at_drop_more (λ ys. kept ++ filter test ys) xs i d lt
      ∙ ap (λ y. kept ++ filter test (y ∷ rest)) at
      ∙ ap (λ b. kept ++ cond b (x ∷ filter test rest) (filter test rest)) passes)
      (kept_from test (start_of 0) xs from)

  pub comes_after : is_before x.time (last_time kept) ≡ false
  comes_after = last_before (start_of 0) kept x (filter test (drop (i + 1) xs)) all_from

  pub is_within : x.time.tick ≤ greatest_tick
  is_within = small_at (start_of 0) kept x (filter test (drop (i + 1) xs)) all_from
