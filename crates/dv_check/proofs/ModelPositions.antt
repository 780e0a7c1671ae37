-- Positions of models by their names.
use Rattle.std.proofs.Common.{◌≡◌, ◌⊎◌, inl, inr, ℕ, suc, ◌+◌, ◌<◌, ◌==◌, nat_lt, Bool, true, false, not, if◌then◌else◌}
use Rattle.std.proofs.Common.{option_map, List, [], ◌∷◌, ◌++◌, length, get_or, take, map, refl, sym, ap, ◌∙◌, Option, Some, None}
use Rattle.std.proofs.Common.{arith}
use Rattle.std.specs.List.{position, position_or_len, slice_get}
use Rattle.std.specs.Option.{option_or}
use Rattle.std.proofs.Math.Path.{fun_ext}
use Rattle.std.proofs.lemmas.Bool.Decides.{nat_tests}
use Rattle.std.proofs.lemmas.List.{take_more, map-append, length-map, length-take}
use Rattle.dv_syntax.specs.Trees.{ModelTree}
use Rattle.dv_check.specs.Cycles.{position_of}
use Rattle.dv_check.specs.Names.{model_named, name_of_model}
use Rattle.dv_check.specs.Tables.{no_value, with_first}

-- ---- The first position that passes

some_if : (b : Bool) (k : ℕ) → (if b then Some (suc k) else None) ≡ option_map suc (if b then Some k else None)
some_if true k = refl
some_if false k = refl

later_test : (k n : ℕ) → nat_lt (1 + k) (suc n) ≡ nat_lt k n
later_test k n = grind (arith, nat_tests)

first_test : (n : ℕ) → nat_lt 0 (suc n) ≡ true
first_test n = grind (arith, nat_tests)

position_if : (b : Bool) (k n : ℕ) → (if nat_lt (if not b then 1 + k else 0) (suc n) then Some (if not b then 1 + k else 0) else None)
    ≡ (if b then Some 0 else option_map suc (if nat_lt k n then Some k else None))
position_if true k n = ap (λ t. if t then Some 0 else None) (first_test n)
position_if false k n =
    let one : 1 + k ≡ suc k = omega arith in
    ap (λ t. if t then Some (1 + k) else None) (later_test k n)
    ∙ (ap (λ m. if nat_lt k n then Some m else None) one
    ∙ some_if (nat_lt k n) k)

-- with one element in front
pub position-cons : {X : Type 0} (p : X → Bool) (x : X) (xs : List X)
    → position p (x ∷ xs) ≡ (if p x then Some 0 else option_map suc (position p xs))
position-cons p x xs = position_if (p x) (position_or_len p xs) (length xs)

later_or : (b : Bool) (o p : Option ℕ) → (if b then Some 0 else option_map suc (option_or o p))
    ≡ option_or (if b then Some 0 else option_map suc o) (option_map suc p)
later_or true o p = refl
later_or false None p = refl
later_or false (Some k) p = refl

or_later : (a b : Bool) (o : Option ℕ) (k : ℕ) → option_or (if a then Some 0 else o) (option_map suc (if b then Some k else None))
    ≡ option_or (if a then Some 0 else o) (if b then Some (suc k) else None)
or_later a true o k = refl
or_later a false o k = refl

-- and with one element more at the end
position_push : {X : Type 0} (p : X → Bool) (xs : List X) (x : X)
    → position p (xs ++ x ∷ []) ≡ option_or (position p xs) (if p x then Some (length xs) else None)
position_push p [] x = position-cons p x []
position_push p (y ∷ ys) x =
    position-cons p y (ys ++ x ∷ [])
    ∙ (ap (λ o. if p y then Some 0 else option_map suc o) (position_push p ys x)
    ∙ (later_or (p y) (position p ys) (if p x then Some (length ys) else None)
    ∙ (or_later (p y) (p x) (option_map suc (position p ys)) (length ys)
    ∙ ap (λ o. option_or o (if p x then Some (suc (length ys)) else None)) (sym (position-cons p y ys)))))

-- ---- Directories of positions

pub positions_none : position_of [] ≡ no_value
unfolding position_of no_value
positions_none = refl

position_of_push : (models : List ModelTree) (m : ModelTree)
    → position_of (models ++ m ∷ []) ≡ with_first (position_of models) (name_of_model m).number (length models)
unfolding position_of with_first
position_of_push models m = fun_ext (λ q. position_push (λ (x : ModelTree). (name_of_model x).number == q) models m)

module _ {X : Type 0} (xs : List X) (i : ℕ) (x : X) (within : i < length xs) (is : x ≡ get_or xs i x) where
  -- one model more
  pub positions_step : (g : X → ModelTree) (before after : ℕ → Option ℕ) (number : ℕ) → number ≡ (name_of_model (g x)).number
      → before ≡ position_of (map g (take i xs)) → after ≡ with_first before number i → after ≡ position_of (map g (take (i + 1) xs))
  positions_step g before after number by_number so_far step =
      let count : length (map g (take i xs)) ≡ i = length-map (take i xs) g ∙ omega (arith, length-take i xs, within) in
      let more : map g (take (i + 1) xs) ≡ map g (take i xs) ++ g x ∷ [] =
      ap (map g) (take_more xs i x within)
      ∙ map-append g (take i xs) (get_or xs i x ∷ [])
      ∙ ap (λ y. map g (take i xs) ++ g y ∷ []) (sym is) in
      step
      ∙ (ap (λ f. with_first f number i) so_far
      ∙ (ap (λ n. with_first (position_of (map g (take i xs))) n i) by_number
      ∙ (ap (with_first (position_of (map g (take i xs))) (name_of_model (g x)).number) (sym count)
      ∙ (sym (position_of_push (map g (take i xs)) (g x))
      ∙ ap position_of (sym more)))))

-- ---- The model at a position

-- a name of no model, and a name of the model at a position
pub record IsMissing (models : List ModelTree) (q : ℕ) : Type 0 where
  pub named : model_named q models ≡ None
  pub position : position_of models q ≡ None

pub record IsFound (models : List ModelTree) (q : ℕ) : Type 0 where
  pub model : ModelTree
  pub index : ℕ
  pub named : model_named q models ≡ Some model
  pub position : position_of models q ≡ Some index
  pub there : slice_get models index ≡ Some model

-- what a name has of the first model, and of the others
position_at : (b : Bool) (m : ModelTree) (models : List ModelTree) (q : ℕ) → ((name_of_model m).number == q) ≡ b
    → position_of (m ∷ models) q ≡ (if b then Some 0 else option_map suc (position_of models q))
unfolding position_of
position_at b m models q e =
    let p : ModelTree → Bool = λ x. (name_of_model x).number == q in
    position-cons p m models ∙ ap (λ t. if t then Some 0 else option_map suc (position p models)) e

model_at : (b : Bool) (m : ModelTree) (models : List ModelTree) (q : ℕ) → ((name_of_model m).number == q) ≡ b
    → model_named q (m ∷ models) ≡ (if b then Some m else model_named q models)
model_at b m models q e = ap (λ t. if t then Some m else model_named q models) e

one_more : (b : Bool) (m : ModelTree) (models : List ModelTree) (q : ℕ) → ((name_of_model m).number == q) ≡ b
    → IsMissing models q ⊎ IsFound models q → IsMissing (m ∷ models) q ⊎ IsFound (m ∷ models) q
one_more true m models q e later = inr (record {
  model = m;
  index = 0;
  named = model_at true m models q e;
  position = position_at true m models q e;
  there = refl;
})
one_more false m models q e (inl h) = inl (record {
  named = model_at false m models q e ∙ h.named;
  position = position_at false m models q e ∙ ap (option_map suc) h.position;
})
one_more false m models q e (inr h) = inr (record {
  model = h.model;
  index = suc h.index;
  named = model_at false m models q e ∙ h.named;
  position = position_at false m models q e ∙ ap (option_map suc) h.position;
  there = h.there;
})

-- a name is that of the model at its position, or of none
pub named_at : (models : List ModelTree) (q : ℕ) → IsMissing models q ⊎ IsFound models q
unfolding position_of
named_at [] q = inl (record { named = refl; position = refl })
named_at (m ∷ models) q = one_more ((name_of_model m).number == q) m models q refl (named_at models q)
