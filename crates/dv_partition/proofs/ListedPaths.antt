-- Paths in their places, one after the other.
use Rattle.std.proofs.Common.{◌≡◌, ℕ, suc, ◌+◌, ◌<◌, Bool, true, false, not, ◌||◌, cond, List, [], ◌∷◌, ◌++◌, length, Option}
use Rattle.std.proofs.Common.{Some, None, is_some, bytes_eq, inl, inr, refl, ap, sym, ◌∙◌, subst, arith}
use Rattle.std.specs.List.{AllByRecursion}
use Rattle.std.specs.Option.{ok_or, option_and_then, option_map, option_or}
use Rattle.std.specs.Prelude.{IfOk, MatchResult, Result, Ok, Err}
use Rattle.std.proofs.lemmas.Bool.{cases_Bool, false≢true}
use Rattle.std.proofs.lemmas.Slice.Eq.{bytes_eq-Decides}
use Rattle.dv_partition.specs.Answers.{IsErrorOf, first_refusal, grouped, owner_from, stands, unless_refused}
use Rattle.dv_partition.specs.Listed.{Text, each}
use Rattle.dv_partition.specs.Steps.{IsMissing, IsRefusal, among}
use Rattle.dv_partition.specs.declared.error.PartitionRefusal.{PartitionRefusal}
use Rattle.dv_partition.specs.declared.error.PartitionError.{PartitionError}
use Rattle.dv_partition.specs.declared.error.PartitionError.TheVariants.{Refused, Memory}
use Rattle.dv_partition.specs.declared.error.PartitionRefusal.TheVariants.{Q2, Q3, Q4}
use Rattle.std.proofs.Math.Bool.{or_assoc}

none_is : {X : Type 0} {x : X} → None ≡ Some x → ⊥
none_is e = false≢true (ap is_some e)

held : {X : Type 0} → X → Option X → X
held x None = x
held x (Some y) = y

-- values of options that are the same
some_same : {X : Type 0} (x y : X) → Some x ≡ Some y → x ≡ y
unfolding held
some_same x y e = ap (held x) e

none_is_some : (r : PartitionRefusal) → None ≡ Some r → ⊥
none_is_some r e = none_is e

none_is_number : (n : ℕ) → None ≡ Some n → ⊥
none_is_number n e = none_is e

-- texts are compared from either side
pub other_way : (a b : Text) → bytes_eq a b ≡ bytes_eq b a
other_way a b = elim (cases_Bool (bytes_eq a b)) [
  | inl same ↦ same ∙ sym ((bytes_eq-Decides b a).1 (sym ((bytes_eq-Decides a b).0 same)))
  | inr apart ↦ elim (cases_Bool (bytes_eq b a)) [
    | inl same ↦ absurd (false≢true (sym apart ∙ (bytes_eq-Decides a b).1 (sym ((bytes_eq-Decides b a).0 same))))
    | inr other ↦ apart ∙ sym other
  ]
]

-- with one more path
pub one_known : (t : Bool) (n : ℕ) (o : Option ℕ) (s : Bool) → (is_some (cond t (Some n) o) || s) ≡ (is_some o || (t || s))
one_known true n None s = refl
one_known true n (Some m) s = refl
one_known false n o s = refl

-- a path that was not there is put in its place
pub one_listed : (process : ℕ) (path : Text) (rest : List Text) (text : Text) (o : Option ℕ) → (bytes_eq path text ≡ true → o ≡ None) →
    option_or (cond (bytes_eq path text) (Some process) o) (among rest process text) ≡ option_or o (among (path ∷ rest) process text)
one_listed process path rest text o absent = elim (cases_Bool (bytes_eq path text)) [
  | inl same ↦ rw (same, absent same, sym (other_way path text) ∙ same) refl
  | inr apart ↦ rw (apart, sym (other_way path text) ∙ apart) refl
]

pub one_seen : (process : ℕ) (path text : Text) (o : Option ℕ) →
    is_some (cond (bytes_eq path text) (Some process) o) ≡ (is_some o || bytes_eq text path)
one_seen process path text o = rw (other_way text path) (by_test (bytes_eq path text) o)
  where
    by_test : (t : Bool) (o : Option ℕ) → is_some (cond t (Some process) o) ≡ (is_some o || t)
    by_test true None = refl
    by_test true (Some m) = refl
    by_test false None = refl
    by_test false (Some m) = refl

-- refusals by functions that are the same
pub same_refusal : (is_path seen other : Text → Bool) (texts : List Text) → ((t : Text) → seen t ≡ other t) →
    first_refusal is_path seen texts ≡ first_refusal is_path other texts
same_refusal is_path seen other [] same = refl
same_refusal is_path seen other (x ∷ xs) same =
    let rest = same_refusal is_path (λ t. seen t || bytes_eq t x) (λ t. other t || bytes_eq t x) xs
    (λ t. ap (λ b. b || bytes_eq t x) (same t)) in
    ap (λ b. cond (not (is_path x)) (Some Q2) (cond b (Some Q3) (first_refusal is_path (λ t. seen t || bytes_eq t x) xs))) (same x)
    ∙ ap (λ (o : Option PartitionRefusal). cond (not (is_path x)) (Some Q2) (cond (other x) (Some Q3) o)) rest

-- what is refused of the first texts is refused
pub refused_more : (is_path seen : Text → Bool) (xs ys : List Text) (r : PartitionRefusal) →
    first_refusal is_path seen xs ≡ Some r → first_refusal is_path seen (xs ++ ys) ≡ Some r
refused_more is_path seen [] ys r h = absurd (none_is_some r h)
refused_more is_path seen (x ∷ xs) ys r h =
    step (is_path x) (seen x) h (λ k. refused_more is_path (λ t. seen t || bytes_eq t x) xs ys r k)
  where
    step : (p s : Bool) → cond (not p) (Some Q2) (cond s (Some Q3) (first_refusal is_path (λ t. seen t || bytes_eq t x) xs)) ≡ Some r →
        (first_refusal is_path (λ t. seen t || bytes_eq t x) xs ≡ Some r
        → first_refusal is_path (λ t. seen t || bytes_eq t x) (xs ++ ys) ≡ Some r) →
        cond (not p) (Some Q2) (cond s (Some Q3) (first_refusal is_path (λ t. seen t || bytes_eq t x) (xs ++ ys))) ≡ Some r
    step false s e k = e
    step true true e k = e
    step true false e k = k e

-- where nothing is refused of the first texts, they are seen
pub accepted_more : (is_path seen : Text → Bool) (xs ys : List Text) → first_refusal is_path seen xs ≡ None →
    first_refusal is_path seen (xs ++ ys) ≡ first_refusal is_path (λ t. seen t || stands t xs) ys
accepted_more is_path seen [] ys h = same_refusal is_path seen (λ t. seen t || false) ys (λ t. by_test (seen t))
  where
    by_test : (b : Bool) → b ≡ (b || false)
    by_test true = refl
    by_test false = refl
accepted_more is_path seen (x ∷ xs) ys h =
    step (is_path x) (seen x) h (λ k. accepted_more is_path (λ t. seen t || bytes_eq t x) xs ys k
    ∙ same_refusal is_path (λ t. (seen t || bytes_eq t x) || stands t xs) (λ t. seen t || stands t (x ∷ xs)) ys
    (λ t. or_assoc (seen t) (bytes_eq t x) (stands t xs)))
  where
    step : (p s : Bool) → cond (not p) (Some Q2) (cond s (Some Q3) (first_refusal is_path (λ t. seen t || bytes_eq t x) xs)) ≡ None →
        (first_refusal is_path (λ t. seen t || bytes_eq t x) xs ≡ None
        → first_refusal is_path (λ t. seen t || bytes_eq t x) (xs ++ ys) ≡ first_refusal is_path (λ t. seen t || stands t (x ∷ xs)) ys) →
        cond (not p) (Some Q2) (cond s (Some Q3) (first_refusal is_path (λ t. seen t || bytes_eq t x) (xs ++ ys)))
        ≡ first_refusal is_path (λ t. seen t || stands t (x ∷ xs)) ys
    step false s e k = absurd (none_is_some Q2 (sym e))
    step true true e k = absurd (none_is_some Q3 (sym e))
    step true false e k = k e

-- the paths of one process more
pub one_list : (o : Option ℕ) (texts : List Text) (n : ℕ) (rest : List (List Text)) (q : Text) →
    option_or (option_or o (among texts n q)) (owner_from (n + 1) rest q) ≡ option_or o (owner_from n (texts ∷ rest) q)
one_list (Some m) texts n rest q = refl
one_list None texts n rest q = by_test (stands q texts)
  where
    by_test : (t : Bool) → option_or (cond t (Some n) None) (owner_from (n + 1) rest q) ≡ cond t (Some n) (owner_from (n + 1) rest q)
    by_test true = refl
    by_test false = refl

pub list_seen : (o : Option ℕ) (texts : List Text) (n : ℕ) (q : Text) → is_some (option_or o (among texts n q))
    ≡ (is_some o || stands q texts)
list_seen (Some m) texts n q = refl
list_seen None texts n q = by_test (stands q texts)
  where
    by_test : (t : Bool) → is_some (cond t (Some n) None) ≡ t
    by_test true = refl
    by_test false = refl

pub or_nothing : (o : Option ℕ) → option_or o None ≡ o
or_nothing None = refl
or_nothing (Some n) = refl

-- processes are below their number
pub owner_below : (n : ℕ) (lists : List (List Text)) (q : Text) (p : ℕ) → owner_from n lists q ≡ Some p → p < n + length lists
owner_below n [] q p h = absurd (none_is_number p h)
owner_below n (texts ∷ lists) q p h = by_test (stands q texts) h (λ k. owner_below (n + 1) lists q p k)
  where
    by_test : (t : Bool) → cond t (Some n) (owner_from (n + 1) lists q) ≡ Some p →
        (owner_from (n + 1) lists q ≡ Some p → p < n + 1 + length lists) → p < n + length (texts ∷ lists)
    by_test true e k = let same : n ≡ p = some_same n p e in omega arith
    by_test false e k = let below = k e in omega arith

-- what stands of each item
module _ {X Y : Type 0} (f : X → Option Y) where
  pub each_long : (xs : List X) (ys : List Y) → each f xs ≡ Some ys → length ys ≡ length xs
  each_long [] ys h = ap length (sym (some_same [] ys h))
  each_long (x ∷ xs) ys h = step (f x) (each f xs) h (λ zs k. each_long xs zs k)
    where
      step : (o : Option Y) (r : Option (List Y)) → option_and_then (λ y. option_map (λ zs. y ∷ zs) r) o ≡ Some ys →
          ((zs : List Y) → r ≡ Some zs → length zs ≡ length xs) → length ys ≡ length (x ∷ xs)
      step None r e k = absurd (none_is e)
      step (Some y) None e k = absurd (none_is e)
      step (Some y) (Some zs) e k = ap length (sym (some_same (y ∷ zs) ys e)) ∙ ap suc (k zs refl)

  module _ (P : Y → Type 0) (holds : (x : X) (y : Y) → f x ≡ Some y → P y) where
    pub each_holds : (xs : List X) (ys : List Y) → each f xs ≡ Some ys → AllByRecursion P ys
    each_holds [] ys h = subst (AllByRecursion P) (some_same [] ys h) tt
    each_holds (x ∷ xs) ys h = step (f x) (each f xs) h (λ y e. holds x y e) (λ zs k. each_holds xs zs k)
      where
        step : (o : Option Y) (r : Option (List Y)) → option_and_then (λ y. option_map (λ zs. y ∷ zs) r) o ≡ Some ys →
            ((y : Y) → o ≡ Some y → P y) → ((zs : List Y) → r ≡ Some zs → AllByRecursion P zs) → AllByRecursion P ys
        step None r e one k = absurd (none_is e)
        step (Some y) None e one k = absurd (none_is e)
        step (Some y) (Some zs) e one k = subst (AllByRecursion P) (some_same (y ∷ zs) ys e) (one y refl, k zs refl)

-- what is asked of the paths is the same
pub same_paths : (is_path other seen : Text → Bool) (texts : List Text) → ((t : Text) → is_path t ≡ other t) →
    first_refusal is_path seen texts ≡ first_refusal other seen texts
same_paths is_path other seen [] same = refl
same_paths is_path other seen (x ∷ xs) same =
    ap (λ b. cond (not b) (Some Q2) (cond (seen x) (Some Q3) (first_refusal is_path (λ t. seen t || bytes_eq t x) xs))) (same x)
    ∙ ap (λ (o : Option PartitionRefusal). cond (not (other x)) (Some Q2) (cond (seen x) (Some Q3) o))
    (same_paths is_path other (λ t. seen t || bytes_eq t x) xs same)

pub same_each : {X Y : Type 0} (f g : X → Option Y) (xs : List X) → ((x : X) → f x ≡ g x) → each f xs ≡ each g xs
same_each f g [] same = refl
same_each f g (x ∷ xs) same =
    ap (λ o. option_and_then (λ y. option_map (λ ys. y ∷ ys) (each f xs)) o) (same x)
    ∙ ap (λ r. option_and_then (λ y. option_map (λ ys. y ∷ ys) r) (g x)) (same_each f g xs same)

pub accepted_one : (is_path seen : Text → Bool) (x : Text) (xs : List Text) → is_path x ≡ true → seen x ≡ false →
    first_refusal is_path seen (x ∷ xs) ≡ first_refusal is_path (λ t. seen t || bytes_eq t x) xs
accepted_one is_path seen x xs p s =
    ap (λ b. cond (not b) (Some Q2) (cond (seen x) (Some Q3) (first_refusal is_path (λ t. seen t || bytes_eq t x) xs))) p
    ∙ ap (λ b. cond b (Some Q3) (first_refusal is_path (λ t. seen t || bytes_eq t x) xs)) s

pub is_nothing : {X : Type 0} (o : Option X) → is_some o ≡ false → o ≡ None
is_nothing None h = refl
is_nothing (Some x) h = absurd (false≢true (sym h))

pub refused_too : {o p : Option PartitionRefusal} (e : PartitionError) → IsRefusal o e →
    ((r : PartitionRefusal) → o ≡ Some r → p ≡ Some r) → IsRefusal p e
refused_too (Refused r) h k = k r h
refused_too Memory h k = tt

pub error_of_refusal : {T : Type 0} (o : Option PartitionRefusal) (answer : Result T PartitionRefusal) (e : PartitionError)
    → IsRefusal o e →
    IsErrorOf (unless_refused o answer) e
error_of_refusal o answer (Refused r) h = ap (λ x. unless_refused x answer) h
error_of_refusal o answer Memory h = tt

-- what is found of all paths is the answer
module _ {T : Type 0} (r : Result T PartitionError) (items : T → List ℕ) (found : Option (List ℕ)) where
  pub answered : (refusal : Option PartitionRefusal) (wanted : Option (List ℕ)) → refusal ≡ None → found ≡ wanted →
      MatchResult r (λ owners. found ≡ Some (items owners)) (IsMissing found) →
      MatchResult r (λ owners. unless_refused refusal (ok_or wanted Q3) ≡ Ok (items owners))
      (IsErrorOf (unless_refused refusal (ok_or wanted Q3)))
  answered refusal wanted none same = by_result r
    where
      by_result : (q : Result T PartitionError) → MatchResult q (λ owners. found ≡ Some (items owners)) (IsMissing found) →
          MatchResult q (λ owners. unless_refused refusal (ok_or wanted Q3) ≡ Ok (items owners))
          (IsErrorOf (unless_refused refusal (ok_or wanted Q3)))
      by_result (Ok x) h = ap (λ o. unless_refused o (ok_or wanted Q3)) none ∙ ap (λ w. ok_or w Q3) (sym same ∙ h)
      by_result (Err (Refused q)) h =
          ap (λ o. unless_refused o (ok_or wanted Q3)) none ∙ ap (λ w. ok_or w Q3) (sym same ∙ h.0) ∙ ap Err (sym h.1)
      by_result (Err Memory) h = tt

  pub if_found : (P : List ℕ → Type 0) → ((ys : List ℕ) → found ≡ Some ys → P ys) →
      MatchResult r (λ owners. found ≡ Some (items owners)) (IsMissing found) → IfOk r (λ owners. P (items owners))
  if_found P k = by_result r
    where
      by_result : (q : Result T PartitionError) → MatchResult q (λ owners. found ≡ Some (items owners)) (IsMissing found) →
          IfOk q (λ owners. P (items owners))
      by_result (Ok x) h = k (items x) h
      by_result (Err e) h = tt

pub error_of_groups : (b : Bool) (n : ℕ) (answer : Result (List ℕ) PartitionRefusal) (e : PartitionError) → b ≡ true → IsErrorOf answer e →
    IsErrorOf (cond b (grouped n answer) (Err Q4)) e
error_of_groups b n answer (Refused r) is h = ap (λ t. cond t (grouped n answer) (Err Q4)) is ∙ ap (grouped n) h
error_of_groups b n answer Memory is h = tt
