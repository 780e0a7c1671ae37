-- What left the model, time by time.
use Rattle.std.proofs.Common.{◌≡◌, ℕ, Bool, true, false, cond, List, [], ◌∷◌, ◌++◌, codes, refl, sym, ap, ◌∙◌, append_assoc}
use Rattle.std.proofs.Common.{append-nil, arith}
use Rattle.std.specs.List.{flat_map}
use Rattle.std.specs.Ordering.{is_eq, nat_cmp, ordering_then}
use Rattle.std.specs.declared.cmp.Ordering.{Ordering}
use Rattle.std.specs.declared.cmp.Ordering.TheVariants.{Less, Equal, Greater}
use Rattle.std.proofs.lemmas.Bool.Decides.{nat_tests}
use Rattle.dv_time.specs.declared.time.Time.{Time}
use Rattle.dv_time.specs.Time.{time_cmp, time_text}
use Rattle.dv_time.specs.Time.{is_before}
use Rattle.dv_bag.specs.declared.entry.Outer.{Outer}
use Rattle.dv_text.specs.Merging.{first_text, group_text, groups_before, groups_from, groups_of, other_groups, with_text}
use Rattle.dv_text.specs.Texts.{outer_text}

-- the ports at the front with a time, and what is after them
abbrev pub ports_at : List (List ℕ) → Time → List Outer → List ℕ
ports_at names t [] = []
ports_at names t (o ∷ os) = cond (is_eq (time_cmp t o.time)) (outer_text names o ++ ports_at names t os) []

abbrev pub after_at : Time → List Outer → List Outer
after_at t [] = []
after_at t (o ∷ os) = cond (is_eq (time_cmp t o.time)) (after_at t os) (o ∷ os)

same_number : (a b : ℕ) → is_eq (nat_cmp a b) ≡ true → a ≡ b
same_number a b h = grind (arith, nat_tests)

both_equal : (a b : Ordering) → is_eq (ordering_then a b) ≡ true → (is_eq a ≡ true) × (is_eq b ≡ true)
both_equal Less b h = cc
both_equal Equal b h = (refl, h)
both_equal Greater b h = cc

-- times that compare as equal are the same
pub same_time : (t u : Time) → is_eq (time_cmp t u) ≡ true → t ≡ u
same_time t u h =
    let both = both_equal (nat_cmp t.tick u.tick) (nat_cmp t.micro u.micro) h in
    ap (λ n. let x : Time = record { tick = n; micro = t.micro } in x) (same_number t.tick u.tick both.0) ∙ ap
    (λ n. let x : Time = record { tick = u.tick; micro = n } in x) (same_number t.micro u.micro both.1)

put_case : (names : List (List ℕ)) (o p : Outer) (os : List Outer) →
    groups_of names (p ∷ os) ≡ (p.time, outer_text names p ++ ports_at names p.time os) ∷ groups_of names (after_at p.time os) →
    (e : Bool) → is_eq (time_cmp o.time p.time) ≡ e →
    cond e ((o.time, outer_text names o ++ (outer_text names p ++ ports_at names p.time os)) ∷ groups_of names (after_at p.time os))
    ((o.time, outer_text names o) ∷ (p.time, outer_text names p ++ ports_at names p.time os) ∷ groups_of names (after_at p.time os)) ≡
    (o.time, outer_text names o ++ cond e (outer_text names p ++ ports_at names o.time os) []) ∷ groups_of names
    (cond e (after_at o.time os) (p ∷ os))
put_case names o p os ih true h =
    ap (λ (t : Time). (o.time, outer_text names o ++ (outer_text names p ++ ports_at names t os)) ∷ groups_of names (after_at t os))
    (sym (same_time o.time p.time h))
put_case names o p os ih false h =
    ap (λ (z : List ℕ). (o.time, z) ∷ (p.time, outer_text names p ++ ports_at names p.time os) ∷ groups_of names (after_at p.time os))
    (sym (append-nil (outer_text names o)))
    ∙ ap (λ (gs : List (Time × List ℕ)). (o.time, outer_text names o ++ []) ∷ gs) (sym ih)

-- the first group has all that is at the front with its time
pub groups_of-cons : (names : List (List ℕ)) (o : Outer) (os : List Outer) →
    groups_of names (o ∷ os) ≡ (o.time, outer_text names o ++ ports_at names o.time os) ∷ groups_of names (after_at o.time os)
groups_of-cons names o [] = ap (λ (z : List ℕ). (o.time, z) ∷ []) (sym (append-nil (outer_text names o)))
groups_of-cons names o (p ∷ os) =
    ap (with_text o.time (outer_text names o)) (groups_of-cons names p os)
    ∙ put_case names o p os (groups_of-cons names p os) (is_eq (time_cmp o.time p.time)) refl

-- the line of the first group
pub first_text-at : (names : List (List ℕ)) (all : List Outer) (o : Outer) (os : List Outer) → all ≡ o ∷ os →
    first_text (groups_of names all) ≡ (time_text o.time ++ codes " out") ++ (outer_text names o ++ (ports_at names o.time os ++ (10 ∷ [])))
first_text-at names all o os e =
    ap (λ xs. first_text (groups_of names xs)) e ∙ ap first_text (groups_of-cons names o os)
    ∙ ap (λ t. time_text o.time ++ (codes " out" ++ t)) (append_assoc (outer_text names o) (ports_at names o.time os) (10 ∷ []))
    ∙ sym (append_assoc (time_text o.time) (codes " out") (outer_text names o ++ (ports_at names o.time os ++ (10 ∷ []))))

pub other_groups-at : (names : List (List ℕ)) (all : List Outer) (o : Outer) (os : List Outer) → all ≡ o ∷ os →
    groups_of names (after_at o.time os) ≡ other_groups (groups_of names all)
other_groups-at names all o os e = sym (ap (λ xs. other_groups (groups_of names xs)) e ∙ ap other_groups (groups_of-cons names o os))

-- one more port of the group
pub ports_at-same : (names : List (List ℕ)) (t : Time) (all : List Outer) (o : Outer) (os : List Outer) → all ≡ o ∷ os →
    is_eq (time_cmp t o.time) ≡ true → ports_at names t all ++ (10 ∷ []) ≡ outer_text names o ++ (ports_at names t os ++ (10 ∷ []))
ports_at-same names t all o os e h =
    ap (λ xs. ports_at names t xs ++ (10 ∷ [])) e
    ∙ ap (λ (b : Bool). cond b (outer_text names o ++ ports_at names t os) [] ++ (10 ∷ [])) h
    ∙ append_assoc (outer_text names o) (ports_at names t os) (10 ∷ [])

pub after_at-same : (t : Time) (all : List Outer) (o : Outer) (os : List Outer) → all ≡ o ∷ os → is_eq (time_cmp t o.time) ≡ true →
    after_at t os ≡ after_at t all
after_at-same t all o os e h = sym (ap (after_at t) e ∙ ap (λ (b : Bool). cond b (after_at t os) (o ∷ os)) h)

-- the line of the first group, and then the others
pub lines_of_groups : (gs : List (Time × List ℕ)) → flat_map group_text gs ≡ first_text gs ++ flat_map group_text (other_groups gs)
lines_of_groups [] = refl
lines_of_groups (g ∷ gs) = refl

first_before : (t : Time) (gs : List (Time × List ℕ)) (g : Time × List ℕ) (others : List (Time × List ℕ)) → gs ≡ g ∷ others →
    is_before g.0 t ≡ true → groups_before t gs ≡ first_text gs ++ groups_before t (other_groups gs)
first_before t gs g others e h =
    ap (groups_before t) e ∙ ap (λ (b : Bool). cond b (group_text g ++ groups_before t others) []) h
    ∙ sym (ap (λ hs. first_text hs ++ groups_before t (other_groups hs)) e)

first_passed : (t : Time) (gs : List (Time × List ℕ)) (g : Time × List ℕ) (others : List (Time × List ℕ)) → gs ≡ g ∷ others →
    is_before g.0 t ≡ true → groups_from t gs ≡ groups_from t (other_groups gs)
first_passed t gs g others e h =
    ap (groups_from t) e ∙ ap (λ (b : Bool). cond b (groups_from t others) (g ∷ others)) h
    ∙ sym (ap (λ hs. groups_from t (other_groups hs)) e)

group_at : (names : List (List ℕ)) (all : List Outer) (o : Outer) (os : List Outer) → all ≡ o ∷ os →
    groups_of names all ≡ (o.time, outer_text names o ++ ports_at names o.time os) ∷ groups_of names (after_at o.time os)
group_at names all o os e = ap (groups_of names) e ∙ groups_of-cons names o os

-- the first group is before a time
pub groups_before-more : (names : List (List ℕ)) (t : Time) (all : List Outer) (o : Outer) (os : List Outer) → all ≡ o ∷ os →
    is_before o.time t ≡ true →
    groups_before t (groups_of names all) ≡ first_text (groups_of names all) ++ groups_before t (other_groups (groups_of names all))
groups_before-more names t all o os e h =
    first_before t (groups_of names all) (o.time, outer_text names o ++ ports_at names o.time os) (groups_of names (after_at o.time os))
    (group_at names all o os e) h

pub groups_from-more : (names : List (List ℕ)) (t : Time) (all : List Outer) (o : Outer) (os : List Outer) → all ≡ o ∷ os →
    is_before o.time t ≡ true → groups_from t (groups_of names all) ≡ groups_from t (other_groups (groups_of names all))
groups_from-more names t all o os e h =
    first_passed t (groups_of names all) (o.time, outer_text names o ++ ports_at names o.time os) (groups_of names (after_at o.time os))
    (group_at names all o os e) h
