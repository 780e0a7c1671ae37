-- Filters of a filter, and parts cut twice.
use Rattle.std.proofs.Common.{◌≡◌, Bool, true, false, not, List, [], ◌∷◌, slice_index_or, refl, sym, ap, ◌∙◌, arith, ⊎_elim}
use Rattle.std.specs.List.{filter}
use Rattle.std.proofs.lemmas.Bool.{cases_Bool, cond-false, cond-true}
use Rattle.std.proofs.lemmas.Bool.Decides.{nat_tests}
use Rattle.dv_time.specs.Time.{is_before}
use Rattle.dv_time.specs.declared.time.Time.{Time}
use Rattle.dv_bag.specs.Part.{PartOf, before, nothing, since}
use Rattle.dv_bag.specs.declared.entry.Entry.{Entry}
use Rattle.dv_bag.specs.declared.entry.Outer.{Outer}
use Rattle.dv_devs.proofs.Cuts.{filter_keeps}
use Rattle.dv_devs.proofs.Parts.{same_part}
use Rattle.dv_conservative.specs.Process.{first_time}

pub filter_yes : {X : Type 0} (p : X → Bool) (x : X) (xs : List X) → p x ≡ true → filter p (x ∷ xs) ≡ x ∷ filter p xs
filter_yes p x xs h = cond-true (p x) (x ∷ filter p xs) (filter p xs) h

pub filter_no : {X : Type 0} (p : X → Bool) (x : X) (xs : List X) → p x ≡ false → filter p (x ∷ xs) ≡ filter p xs
filter_no p x xs h = cond-false (p x) (x ∷ filter p xs) (filter p xs) h

-- two filters in either order
pub filters_swap : {X : Type 0} (p q : X → Bool) (xs : List X) → filter p (filter q xs) ≡ filter q (filter p xs)
filters_swap p q [] = refl
filters_swap {X} p q (x ∷ xs) =
    let more = filters_swap p q xs in
    ⊎_elim
    (λ yes. ap (filter p) (filter_yes q x xs yes) ∙ ⊎_elim
    (λ also. filter_yes p x (filter q xs) also ∙ (ap (λ (l : List X). x ∷ l) more
    ∙ sym (ap (filter q) (filter_yes p x xs also) ∙ filter_yes q x (filter p xs) yes)))
    (λ no. filter_no p x (filter q xs) no ∙ (more ∙ sym (ap (filter q) (filter_no p x xs no))))
    (cases_Bool (p x)))
    (λ no. ap (filter p) (filter_no q x xs no) ∙ ⊎_elim
    (λ also. more ∙ sym (ap (filter q) (filter_yes p x xs also) ∙ filter_no q x (filter p xs) no))
    (λ none. more ∙ sym (ap (filter q) (filter_no p x xs none)))
    (cases_Bool (p x)))
    (cases_Bool (q x))

-- a filter of one that keeps more
pub filter_narrower : {X : Type 0} (p q : X → Bool) → ((x : X) → p x ≡ true → q x ≡ true) → (xs : List X)
    → filter p (filter q xs) ≡ filter p xs
filter_narrower p q h [] = refl
filter_narrower {X} p q h (x ∷ xs) =
    let more = filter_narrower p q h xs in
    ⊎_elim
    (λ yes. ap (filter p) (filter_yes q x xs (h x yes)) ∙ (filter_yes p x (filter q xs) yes
    ∙ (ap (λ (l : List X). x ∷ l) more ∙ sym (filter_yes p x xs yes))))
    (λ no. ⊎_elim
    (λ also. ap (filter p) (filter_yes q x xs also) ∙ (filter_no p x (filter q xs) no ∙ (more ∙ sym (filter_no p x xs no))))
    (λ none. ap (filter p) (filter_no q x xs none) ∙ (more ∙ sym (filter_no p x xs no)))
    (cases_Bool (q x)))
    (cases_Bool (p x))

-- a filter of what passes another one, where none passes both
filter_apart : {X : Type 0} (p q : X → Bool) → ((x : X) → q x ≡ true → p x ≡ false) → (xs : List X)
    → filter p (filter q xs) ≡ []
filter_apart p q h [] = refl
filter_apart {X} p q h (x ∷ xs) =
    let more = filter_apart p q h xs in
    ⊎_elim
    (λ yes. ap (filter p) (filter_yes q x xs yes) ∙ (filter_no p x (filter q xs) (h x yes) ∙ more))
    (λ no. ap (filter p) (filter_no q x xs no) ∙ more)
    (cases_Bool (q x))

-- what is not before a time is not before one that is no later
pub still_since : (a b t : Time) → is_before b a ≡ false → not (is_before t b) ≡ true → not (is_before t a) ≡ true
still_since a b t le h = grind (arith, nat_tests)

not_before_either : (a b t : Time) → is_before a b ≡ false → not (is_before t a) ≡ true → is_before t b ≡ false
not_before_either a b t le h = grind (arith, nat_tests)

-- there is nothing from a time on and before one that is no later
pub none_before : (a b : Time) (p : PartOf) → is_before a b ≡ false → before b (since a p) ≡ nothing
none_before a b p le =
    same_part _ _ _ _
    (filter_apart (λ (e : Entry). is_before e.time b) (λ (e : Entry). not (is_before e.time a))
    (λ e h. not_before_either a b e.time le h) p.entries)
    (filter_apart (λ (o : Outer). is_before o.time b) (λ (o : Outer). not (is_before o.time a))
    (λ o h. not_before_either a b o.time le h) p.outer)

-- from 0.0 on there is all
from_first : (t : Time) → not (is_before t first_time) ≡ true
from_first t = grind (arith, nat_tests)

pub since_first : (p : PartOf) → since first_time p ≡ p
since_first p =
    same_part _ _ _ _
    (filter_keeps (λ (e : Entry). not (is_before e.time first_time)) p.entries (λ k d lt. from_first (slice_index_or p.entries k d).time))
    (filter_keeps (λ (o : Outer). not (is_before o.time first_time)) p.outer (λ k d lt. from_first (slice_index_or p.outer k d).time))

-- cut before one time and since another
pub before_since : (a b : Time) (p : PartOf) → before b (since a p) ≡ since a (before b p)
before_since a b p =
    same_part _ _ _ _ (filters_swap (λ (e : Entry). is_before e.time b) (λ (e : Entry). not (is_before e.time a)) p.entries)
    (filters_swap (λ (o : Outer). is_before o.time b) (λ (o : Outer). not (is_before o.time a)) p.outer)

-- cut since two times, the earlier first or last
module _ (a b : Time) (le : is_before b a ≡ false) (p : PartOf) where
  pub since_since : since b (since a p) ≡ since b p
  since_since =
      same_part _ _ _ _
      (filter_narrower (λ (e : Entry). not (is_before e.time b)) (λ (e : Entry). not (is_before e.time a))
      (λ e h. still_since a b e.time le h) p.entries)
      (filter_narrower (λ (o : Outer). not (is_before o.time b)) (λ (o : Outer). not (is_before o.time a))
      (λ o h. still_since a b o.time le h) p.outer)

  since_swap : since a (since b p) ≡ since b (since a p)
  since_swap =
      same_part _ _ _ _
      (filters_swap (λ (e : Entry). not (is_before e.time a)) (λ (e : Entry). not (is_before e.time b)) p.entries)
      (filters_swap (λ (o : Outer). not (is_before o.time a)) (λ (o : Outer). not (is_before o.time b)) p.outer)

  pub since_already : since a (since b p) ≡ since b p
  since_already = since_swap ∙ since_since
