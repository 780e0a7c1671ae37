-- Directories, tables and sets of numbers: nothing in them, and one value more.
use Rattle.std.proofs.Common.{◌≡◌, ℕ, zero, suc, ◌==◌, Bool, true, false, if◌then◌else◌, nat_eq, nat_lt, is_none, is_some, List}
use Rattle.std.proofs.Common.{[], ◌∷◌, ◌++◌, length, slice_get, slice_set}
use Rattle.std.proofs.Common.{refl, sym, ap, ◌∙◌, arith, Option, Some, None, ◌<◌, ◌≤◌}
use Rattle.std.proofs.Math.Path.{fun_ext}
use Rattle.std.proofs.lemmas.Bool.Decides.{nat_tests}
use Rattle.std.specs.Option.{option_flatten, option_or}
use Rattle.std.specs.HashMap.{get}
use Rattle.dv_check.specs.declared.number_set.NumberSet.{NumberSet}
use Rattle.dv_check.specs.declared.table.Table.{Table}
use Rattle.dv_check.specs.Names.{first_of, no_number, with_number}
use Rattle.dv_check.specs.Tables.{entry_for, has, no_value, table_value, value_at, value_for, with_first}
use Rattle.dv_check.proofs.Firsts.{first_of_push}

-- ---- What stays

or_same : {V : Type 0} (o : Option V) (b : Bool) (v : V) → (b ≡ true → is_none o ≡ false) → o ≡ option_or o (if b then Some v else None)
or_same (Some w) b v h = refl
or_same None false v h = refl
or_same None true v h = grind (arith, h refl)

-- a value is not added where there is one
pub stays_first : {V : Type 0} (f : ℕ → Option V) (n : ℕ) (v : V) → is_none (f n) ≡ false → f ≡ with_first f n v
unfolding with_first
stays_first f n v h = fun_ext (λ q. or_same (f q) (n == q) v (λ t. grind (arith, nat_tests, h, t)))

-- ---- Lists of values by their numbers

pub entry_none : {V : Type 0} (entries : List (ℕ × V)) → entries ≡ [] → entry_for entries ≡ no_value
unfolding entry_for no_value first_of
entry_none entries e = fun_ext (λ q. ap (λ xs. entry_for xs q) e)

pub entry_more : {V : Type 0} (entries : List (ℕ × V)) (n : ℕ) (v : V)
    → entry_for (entries ++ (n, v) ∷ []) ≡ with_first (entry_for entries) n v
unfolding entry_for with_first
entry_more {V} entries n v = fun_ext (λ q. first_of_push (λ (e : ℕ × V). e.0) (λ (e : ℕ × V). e.1) entries (n, v) q)

-- ---- Lists that have empty offsets

pub value_past : {V : Type 0} (offsets : List (Option V)) (q : ℕ) → value_at (offsets ++ None ∷ []) q ≡ value_at offsets q
unfolding value_at
value_past [] zero = refl
value_past [] (suc q) = refl
value_past (p ∷ offsets) zero = refl
value_past (p ∷ offsets) (suc q) = value_past offsets q

suc_test : (i q : ℕ) → (suc i == suc q) ≡ (i == q)
suc_test i q = grind (arith, nat_tests)

before_test : (q : ℕ) → (0 == suc q) ≡ false
before_test q = grind (arith, nat_tests)

after_test : (i : ℕ) → (suc i == 0) ≡ false
after_test i = grind (arith, nat_tests)

pub value_put : {V : Type 0} (offsets : List (Option V)) (i : ℕ) (v : V) (q : ℕ) → i < length offsets
    → value_at (slice_set offsets i (Some v)) q ≡ (if i == q then Some v else value_at offsets q)
unfolding value_at
value_put [] i v q h = grind (arith, h)
value_put (p ∷ offsets) zero v zero h = refl
value_put {V} (p ∷ offsets) zero v (suc q) h = ap (λ b. if b then Some v else option_flatten (slice_get offsets q)) (sym (before_test q))
value_put {V} (p ∷ offsets) (suc i) v zero h = ap (λ b. if b then Some v else option_flatten (Some p)) (sym (after_test i))
value_put {V} (p ∷ offsets) (suc i) v (suc q) h =
    value_put offsets i v q (grind (arith, h))
    ∙ ap (λ b. if b then Some v else option_flatten (slice_get offsets q)) (sym (suc_test i q))

-- ---- Tables

both_none : {V : Type 0} (b : Bool) (o p : Option V) → o ≡ None → p ≡ None → (if b then o else p) ≡ None
both_none true o p ho hp = ho
both_none false o p ho hp = hp

pub table_none : {V : Type 0} (t : Table V) → t.low.items ≡ [] → t.high.entries ≡ [] → table_value t ≡ no_value
unfolding table_value value_at no_value
table_none t low high =
    fun_ext
    (λ q.
    both_none (nat_lt q t.limit) (value_at t.low.items q) (get nat_eq t.high q) (grind (arith, low)) (grind (arith, high)))

or_none : {V : Type 0} (o : Option V) → o ≡ option_or o None
or_none None = refl
or_none (Some v) = refl

low_or : {V : Type 0} (b t : Bool) (o p : Option V) (v : V) → (t ≡ true → b ≡ true) → (t ≡ true → is_none (if b then o else p) ≡ true)
    → (if b then (if t then Some v else o) else p) ≡ option_or (if b then o else p) (if t then Some v else None)
low_or true true None p v h n = refl
low_or true true (Some w) p v h n = grind (arith, n refl)
low_or false true o p v h n = grind (arith, h refl)
low_or true false o p v h n = or_none o
low_or false false o p v h n = or_none p

high_or : {V : Type 0} (b t : Bool) (o p : Option V) (v : V) → (t ≡ true → b ≡ false) → (t ≡ true → is_none (if b then o else p) ≡ true)
    → (if b then o else (if t then Some v else p)) ≡ option_or (if b then o else p) (if t then Some v else None)
high_or false true o None v h n = refl
high_or false true o (Some w) v h n = grind (arith, n refl)
high_or true true o p v h n = grind (arith, h refl)
high_or true false o p v h n = or_none o
high_or false false o p v h n = or_none p

same : (n q : ℕ) → (n == q) ≡ true → n ≡ q
same n q t = grind (arith, nat_tests, t)

below : (n q limit : ℕ) → n < limit → (n == q) ≡ true → nat_lt q limit ≡ true
below n q limit h t = grind (arith, nat_tests, h, t)

past : (n q limit : ℕ) → limit ≤ n → (n == q) ≡ true → nat_lt q limit ≡ false
past n q limit h t = grind (arith, nat_tests, h, t)

-- a table by its parts
abbrev parted : {V : Type 0} → ℕ → (low high : ℕ → Option V) → ℕ → Option V
parted limit low high q = if nat_lt q limit then low q else high q

none_at : {V : Type 0} (limit : ℕ) (low high : ℕ → Option V) (n q : ℕ) → is_none (parted limit low high n) ≡ true → (n == q) ≡ true
    → is_none (parted limit low high q) ≡ true
none_at limit low high n q none t = ap (λ k. is_none (parted limit low high k)) (sym (same n q t)) ∙ none

-- one value more below the limit, and one from there on
pub low_more : {V : Type 0} (limit : ℕ) (low more high : ℕ → Option V) (n : ℕ) (v : V) → n < limit
    → is_none (parted limit low high n) ≡ true → ((q : ℕ) → more q ≡ (if n == q then Some v else low q))
    → parted limit more high ≡ with_first (parted limit low high) n v
unfolding with_first
low_more limit low more high n v h none put =
    fun_ext
    (λ q.
    ap (λ o. if nat_lt q limit then o else high q) (put q)
    ∙ low_or (nat_lt q limit) (n == q) (low q) (high q) v (below n q limit h) (none_at limit low high n q none))

pub high_more : {V : Type 0} (limit : ℕ) (low high more : ℕ → Option V) (n : ℕ) (v : V) → limit ≤ n
    → is_none (parted limit low high n) ≡ true → ((q : ℕ) → more q ≡ (if n == q then Some v else high q))
    → parted limit low more ≡ with_first (parted limit low high) n v
unfolding with_first
high_more limit low high more n v h none put =
    fun_ext
    (λ q.
    ap (λ o. if nat_lt q limit then low q else o) (put q)
    ∙ high_or (nat_lt q limit) (n == q) (low q) (high q) v (past n q limit h) (none_at limit low high n q none))

-- ---- Sets of numbers, which are directories of nothing

pub set_of_none : (s : NumberSet) → value_for s.numbers ≡ no_value → has s ≡ no_number
unfolding has no_number no_value
set_of_none s e = ap (λ (f : ℕ → Option (Unit {0})). λ (q : ℕ). is_some (f q)) e

some_or : {V : Type 0} (b : Bool) (o : Option V) (v : V)
    → is_some (option_or o (if b then Some v else None)) ≡ (if b then true else is_some o)
some_or true None v = refl
some_or true (Some w) v = refl
some_or false None v = refl
some_or false (Some w) v = refl

pub set_of_more : (s more : NumberSet) (n : ℕ) (u : Unit {0}) → value_for more.numbers ≡ with_first (value_for s.numbers) n u
    → has more ≡ with_number (has s) n
unfolding has with_number with_first
set_of_more s more n u e =
    ap (λ (f : ℕ → Option (Unit {0})). λ (q : ℕ). is_some (f q)) e
    ∙ fun_ext (λ q. some_or (n == q) (value_for s.numbers q) u)
