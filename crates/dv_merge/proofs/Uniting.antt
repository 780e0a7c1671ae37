-- Lines, united in any grouping.
use Rattle.std.proofs.Common.{◌≡◌, ℕ, zero, suc, ◌+◌, ◌<◌, ◌≤◌, List, [], ◌∷◌, ◌++◌, length, take, drop, slice_index_or, Option}
use Rattle.std.proofs.Common.{None, Some, refl, sym, ap, ap₂, ◌∙◌, subst, arith, nat_lt, ⊎_elim}
use Rattle.std.specs.List.{All}
use Rattle.std.specs.Option.{option_to_list}
use Rattle.std.specs.Ordering.{match_ordering}
use Rattle.std.specs.declared.cmp.Ordering.{Ordering}
use Rattle.std.specs.declared.cmp.Ordering.TheVariants.{Less, Equal, Greater}
use Rattle.std.proofs.lemmas.Bool.{cases_Bool, ltb-true, ltb-false}
use Rattle.std.proofs.lemmas.Bool.Decides.{nat_tests}
use Rattle.std.proofs.lemmas.List.{get_or_past, get_or-drop, get_or-take, length-drop, length-take}
use Rattle.std.proofs.lemmas.List.Elements.{All-cons, All-head, All-nil, All-tail, All-weaker}
use Rattle.dv_time.specs.declared.time.Time.{Time}
use Rattle.dv_bag.specs.Bag.{Counts, IsBag, union}
use Rattle.dv_bag.specs.declared.entry.Outer.{Outer}
use Rattle.dv_bag.proofs.Monoid.{union_assoc, union_bag, union_comm}
use Rattle.dv_devs.specs.Outside.{line_cmp, union_of_lines, with_line}
use Rattle.dv_conservative.specs.True.{united}
use Rattle.dv_merge.specs.Lines.{AreLines, list_at, merged_lines, with_values}

-- ---- the order of lines

later : (a b : Outer) → line_cmp a b ≡ Less → line_cmp b a ≡ Greater
later a b h = grind (arith, nat_tests)

sooner : (a b : Outer) → line_cmp a b ≡ Greater → line_cmp b a ≡ Less
sooner a b h = grind (arith, nat_tests)

level : (a b : Outer) → line_cmp a b ≡ Equal → line_cmp b a ≡ Equal
level a b h = grind (arith, nat_tests)

less_tick : (a b : Outer) → a.time.tick < b.time.tick → line_cmp a b ≡ Less
less_tick a b t = grind (arith, nat_tests)

less_micro : (a b : Outer) → a.time.tick ≡ b.time.tick → a.time.micro < b.time.micro → line_cmp a b ≡ Less
less_micro a b t m = grind (arith, nat_tests)

less_port : (a b : Outer) → a.time.tick ≡ b.time.tick → a.time.micro ≡ b.time.micro → a.port < b.port → line_cmp a b ≡ Less
less_port a b t m p = grind (arith, nat_tests)

tick_of : (a b : Outer) → line_cmp a b ≡ Less → a.time.tick ≤ b.time.tick
tick_of a b h = grind (arith, nat_tests)

micro_of : (a b : Outer) → line_cmp a b ≡ Less → a.time.tick ≡ b.time.tick → a.time.micro ≤ b.time.micro
micro_of a b h t = grind (arith, nat_tests)

port_of : (a b : Outer) → line_cmp a b ≡ Less → a.time.tick ≡ b.time.tick → a.time.micro ≡ b.time.micro → a.port < b.port
port_of a b h t m = grind (arith, nat_tests)

sooner_still : (a b c : Outer) → line_cmp a b ≡ Less → line_cmp b c ≡ Less → line_cmp a c ≡ Less
sooner_still a b c h k =
    ⊎_elim (λ t. less_tick a c (ltb-true a.time.tick c.time.tick t))
    (λ f.
    let not_less = ltb-false a.time.tick c.time.tick f in
    let ab = tick_of a b h in
    let bc = tick_of b c k in
    let first : a.time.tick ≡ b.time.tick = omega (arith, not_less, ab, bc) in
    let second : b.time.tick ≡ c.time.tick = omega (arith, not_less, ab, bc) in
    at_tick first second (micro_of a b h first) (micro_of b c k second))
    (cases_Bool (nat_lt a.time.tick c.time.tick))
  where
    at_tick : a.time.tick ≡ b.time.tick → b.time.tick ≡ c.time.tick → a.time.micro ≤ b.time.micro → b.time.micro ≤ c.time.micro
        → line_cmp a c ≡ Less
    at_tick first second le more =
        ⊎_elim (λ t. less_micro a c (first ∙ second) (ltb-true a.time.micro c.time.micro t))
        (λ f.
        let not_less = ltb-false a.time.micro c.time.micro f in
        let one : a.time.micro ≡ b.time.micro = omega (arith, not_less, le, more) in
        let two : b.time.micro ≡ c.time.micro = omega (arith, not_less, le, more) in
        let p = port_of a b h first one in
        let q = port_of b c k second two in
        less_port a c (first ∙ second) (one ∙ two) (omega (arith, p, q)))
        (cases_Bool (nat_lt a.time.micro c.time.micro))

same_tick : (a b : Outer) → line_cmp a b ≡ Equal → a.time.tick ≡ b.time.tick
same_tick a b h = grind (arith, nat_tests)

same_micro : (a b : Outer) → line_cmp a b ≡ Equal → a.time.micro ≡ b.time.micro
same_micro a b h = grind (arith, nat_tests)

same_port : (a b : Outer) → line_cmp a b ≡ Equal → a.port ≡ b.port
same_port a b h = grind (arith, nat_tests)

same_time : (a b : Outer) → line_cmp a b ≡ Equal → a.time ≡ b.time
same_time a b h = ap₂ (λ (t m : ℕ). record { tick = t; micro = m }) (same_tick a b h) (same_micro a b h)

abbrev at : Time → ℕ → Counts → Outer
at t p v = record { time = t; port = p; values = v }

-- lines of one time and port are compared alike
alike : (a b c : Outer) → line_cmp a b ≡ Equal → line_cmp a c ≡ line_cmp b c
alike a b c h = ap₂ (λ (t : Time) (p : ℕ). line_cmp (at t p c.values) c) (same_time a b h) (same_port a b h)

alike_after : (a b c : Outer) → line_cmp a b ≡ Equal → line_cmp c a ≡ line_cmp c b
alike_after a b c h = ap₂ (λ (t : Time) (p : ℕ). line_cmp c (at t p c.values)) (same_time a b h) (same_port a b h)

swapped : (a b : Outer) → line_cmp a b ≡ Equal → IsBag a.values → IsBag b.values → with_values a b ≡ with_values b a
swapped a b h k l =
    ap₂ (λ (t : Time) (p : ℕ). at t p (union a.values b.values)) (same_time a b h) (same_port a b h)
    ∙ ap (λ (v : Counts). at b.time b.port v) (union_comm a.values b.values k l)

-- ---- bags

abbrev Bagged : Outer → Type 0
Bagged o = IsBag o.values

all_with : (P : Outer → Type 0) (z : Outer) (xs : List Outer) → P z → ((q : Outer) → P q → P (with_values q z)) → All P xs
    → All P (with_line z xs)
all_with P z [] h more k = All-cons P z [] h (All-nil P)
all_with P z (p ∷ ps) h more k = by_order (line_cmp z p) (all_with P z ps h more (All-tail P p ps k))
  where
    by_order : (r : Ordering) → All P (with_line z ps) → All P (match_ordering r (z ∷ p ∷ ps) (with_values p z ∷ ps) (p ∷ with_line z ps))
    by_order Less rest = All-cons P z (p ∷ ps) h k
    by_order Equal rest = All-cons P (with_values p z) ps (more p (All-head P p ps k)) (All-tail P p ps k)
    by_order Greater rest = All-cons P p (with_line z ps) (All-head P p ps k) rest

bagged_with : (z : Outer) (xs : List Outer) → Bagged z → All Bagged xs → All Bagged (with_line z xs)
bagged_with z xs h k = all_with Bagged z xs h (λ q l. union_bag q.values z.values l h) k

bagged_union : (xs ys : List Outer) → All Bagged xs → All Bagged ys → All Bagged (union_of_lines xs ys)
bagged_union xs [] h k = h
bagged_union xs (y ∷ ys) h k = bagged_union (with_line y xs) ys (bagged_with y xs (All-head Bagged y ys k) h) (All-tail Bagged y ys k)

pub bagged : (xs : List Outer) → AreLines xs → All Bagged xs
bagged [] h = All-nil Bagged
bagged (x ∷ xs) h = All-cons Bagged x xs h.0 (bagged xs h.2)

-- ---- in order

lines_with : (z : Outer) (xs : List Outer) → Bagged z → AreLines xs → AreLines (with_line z xs)
lines_with z [] h k = (h, All-nil (λ (p : Outer). line_cmp z p ≡ Less), tt)
lines_with z (p ∷ ps) h k = by_order (line_cmp z p) refl (lines_with z ps h k.2)
  where
    by_order : (r : Ordering) → line_cmp z p ≡ r → AreLines (with_line z ps)
        → AreLines (match_ordering r (z ∷ p ∷ ps) (with_values p z ∷ ps) (p ∷ with_line z ps))
    by_order Less e rest = (
      h,
      All-cons (λ (q : Outer). line_cmp z q ≡ Less) p ps e
          (All-weaker (λ (q : Outer). line_cmp p q ≡ Less) (λ (q : Outer). line_cmp z q ≡ Less) (λ q l. sooner_still z p q e l) ps k.1),
      k,
    )
    by_order Equal e rest = (union_bag p.values z.values k.0 h, k.1, k.2)
    by_order Greater e rest =
        (k.0, all_with (λ (q : Outer). line_cmp p q ≡ Less) z ps (sooner z p e) (λ q l. l) k.1, rest)

pub lines_union : (xs ys : List Outer) → AreLines xs → All Bagged ys → AreLines (union_of_lines xs ys)
lines_union xs [] h k = h
lines_union xs (y ∷ ys) h k = lines_union (with_line y xs) ys (lines_with y xs (All-head Bagged y ys k) h) (All-tail Bagged y ys k)

-- ---- two lists in order

merged-empty : (xs : List Outer) → merged_lines xs [] ≡ xs
merged-empty [] = refl
merged-empty (x ∷ xs) = refl

-- a line that is before all of the second list
past : (x : Outer) (xs ys : List Outer) → All (λ (z : Outer). line_cmp z x ≡ Greater) ys → merged_lines (x ∷ xs) ys ≡ x ∷ merged_lines xs ys
past x xs [] h = ap (λ (t : List Outer). x ∷ t) (sym (merged-empty xs))
past x xs (y ∷ ys) h =
    ap (λ (r : Ordering). match_ordering r (y ∷ merged_lines (x ∷ xs) ys) (with_values x y ∷ merged_lines xs ys)
    (x ∷ merged_lines xs (y ∷ ys)))
    (All-head (λ (z : Outer). line_cmp z x ≡ Greater) y ys h)

merged-first : (y : Outer) (xs ys : List Outer) → All (λ (z : Outer). line_cmp y z ≡ Less) ys
    → merged_lines xs (y ∷ ys) ≡ merged_lines (with_line y xs) ys
merged-first y [] ys h = sym (past y [] ys (All-weaker (λ (z : Outer). line_cmp y z ≡ Less) (λ (z : Outer). line_cmp z y ≡ Greater)
    (λ z l. later y z l) ys h))
merged-first y (x ∷ xs) ys h = by_order (line_cmp y x) refl (merged-first y xs ys h)
  where
    by_order : (r : Ordering) → line_cmp y x ≡ r → merged_lines xs (y ∷ ys) ≡ merged_lines (with_line y xs) ys
        → match_ordering r (y ∷ merged_lines (x ∷ xs) ys) (with_values x y ∷ merged_lines xs ys) (x ∷ merged_lines xs (y ∷ ys))
        ≡ merged_lines (match_ordering r (y ∷ x ∷ xs) (with_values x y ∷ xs) (x ∷ with_line y xs)) ys
    by_order Less e more =
        sym (past y (x ∷ xs) ys (All-weaker (λ (z : Outer). line_cmp y z ≡ Less) (λ (z : Outer). line_cmp z y ≡ Greater)
        (λ z l. later y z l) ys h))
    by_order Equal e more =
        sym (past (with_values x y) xs ys
        (All-weaker (λ (z : Outer). line_cmp y z ≡ Less) (λ (z : Outer). line_cmp z x ≡ Greater) (λ z l. sym (alike_after y x z e)
        ∙ later y z l) ys h))
    by_order Greater e more =
        ap (λ (t : List Outer). x ∷ t) more
        ∙ sym (past x (with_line y xs) ys
        (All-weaker (λ (z : Outer). line_cmp y z ≡ Less) (λ (z : Outer). line_cmp z x ≡ Greater)
        (λ z l. later x z (sooner_still x y z (sooner y x e) l)) ys h))

pub merged_is_union : (xs ys : List Outer) → AreLines ys → merged_lines xs ys ≡ union_of_lines xs ys
merged_is_union xs [] h = merged-empty xs
merged_is_union xs (y ∷ ys) h = merged-first y xs ys h.1 ∙ merged_is_union (with_line y xs) ys h.2

-- ---- lines go in in either order

-- one line beside another, in front of a list
swap_first : (y z : Outer) (ps : List Outer) → Bagged y → Bagged z
    → match_ordering (line_cmp z y) (z ∷ y ∷ ps) (with_values y z ∷ ps) (y ∷ z ∷ ps)
    ≡ match_ordering (line_cmp y z) (y ∷ z ∷ ps) (with_values z y ∷ ps) (z ∷ y ∷ ps)
swap_first y z ps h k = by_order (line_cmp z y) refl
  where
    right : Ordering → List Outer
    right r = match_ordering r (y ∷ z ∷ ps) (with_values z y ∷ ps) (z ∷ y ∷ ps)

    by_order : (r : Ordering) → line_cmp z y ≡ r → match_ordering r (z ∷ y ∷ ps) (with_values y z ∷ ps) (y ∷ z ∷ ps) ≡ right (line_cmp y z)
    by_order Less e = sym (ap right (later z y e))
    by_order Equal e = ap (λ (o : Outer). o ∷ ps) (swapped y z (level z y e) h k) ∙ sym (ap right (level z y e))
    by_order Greater e = sym (ap right (sooner z y e))

-- beside a line that stands
abbrev put : Ordering → Outer → Outer → List Outer → List Outer → List Outer
put r z p ps more = match_ordering r (z ∷ p ∷ ps) (with_values p z ∷ ps) (p ∷ more)

pub with_lines_swap : (y z : Outer) (xs : List Outer) → Bagged y → Bagged z → All Bagged xs
    → with_line z (with_line y xs) ≡ with_line y (with_line z xs)
with_lines_swap y z [] h k l = swap_first y z [] h k
with_lines_swap y z (p ∷ ps) h k l =
    by_orders (line_cmp y p) (line_cmp z p) refl refl (with_lines_swap y z ps h k (All-tail Bagged p ps l))
  where
    past_it : (a : Outer) (rest : List Outer) → line_cmp a p ≡ Greater → with_line a (p ∷ rest) ≡ p ∷ with_line a rest
    past_it a rest e = ap (λ (r : Ordering). put r a p rest (with_line a rest)) e

    joins : (a q : Outer) (rest : List Outer) → line_cmp a q ≡ Equal → with_line a (q ∷ rest) ≡ with_values q a ∷ rest
    joins a q rest e = ap (λ (r : Ordering). put r a q rest (with_line a rest)) e

    goes_first : (a q : Outer) (rest : List Outer) → line_cmp a q ≡ Less → with_line a (q ∷ rest) ≡ a ∷ q ∷ rest
    goes_first a q rest e = ap (λ (r : Ordering). put r a q rest (with_line a rest)) e

    goes_past : (a q : Outer) (rest : List Outer) → line_cmp a q ≡ Greater → with_line a (q ∷ rest) ≡ q ∷ with_line a rest
    goes_past a q rest e = ap (λ (r : Ordering). put r a q rest (with_line a rest)) e

    both : IsBag p.values → with_values (with_values p y) z ≡ with_values (with_values p z) y
    both m = ap (λ (v : Counts). at p.time p.port v)
        (union_assoc p.values y.values z.values m h k
        ∙ (ap (λ (v : Counts). union p.values v) (union_comm y.values z.values h k) ∙ sym (union_assoc p.values z.values y.values m k h)))

    by_orders : (r s : Ordering) → line_cmp y p ≡ r → line_cmp z p ≡ s → with_line z (with_line y ps) ≡ with_line y (with_line z ps)
        → with_line z (put r y p ps (with_line y ps)) ≡ with_line y (put s z p ps (with_line z ps))
    by_orders Less Less e d more =
        ap (λ (t : List Outer). match_ordering (line_cmp z y) (z ∷ y ∷ p ∷ ps) (with_values y z ∷ p ∷ ps) (y ∷ t)) (goes_first z p ps d)
        ∙ (swap_first y z (p ∷ ps) h k
        ∙ sym (ap (λ (t : List Outer). match_ordering (line_cmp y z) (y ∷ z ∷ p ∷ ps) (with_values z y ∷ p ∷ ps) (z ∷ t))
        (goes_first y p ps e)))
    by_orders Less Equal e d more =
        goes_past z y (p ∷ ps) (later y z (sym (alike_after p z y (level z p d)) ∙ e))
        ∙ (ap (λ (t : List Outer). y ∷ t) (joins z p ps d) ∙ sym (goes_first y (with_values p z) ps e))
    by_orders Less Greater e d more =
        goes_past z y (p ∷ ps) (later y z (sooner_still y p z e (sooner z p d)))
        ∙ (ap (λ (t : List Outer). y ∷ t) (goes_past z p ps d) ∙ sym (goes_first y p (with_line z ps) e))
    by_orders Equal Less e d more =
        goes_first z (with_values p y) ps d
        ∙ sym (goes_past y z (p ∷ ps) (later z y (sym (alike_after p y z (level y p e)) ∙ d))
        ∙ ap (λ (t : List Outer). z ∷ t) (joins y p ps e))
    by_orders Equal Equal e d more =
        joins z (with_values p y) ps d
        ∙ (ap (λ (o : Outer). o ∷ ps) (both (All-head Bagged p ps l)) ∙ sym (joins y (with_values p z) ps e))
    by_orders Equal Greater e d more =
        goes_past z (with_values p y) ps d ∙ sym (joins y p (with_line z ps) e)
    by_orders Greater Less e d more =
        goes_first z p (with_line y ps) d
        ∙ sym (goes_past y z (p ∷ ps) (later z y (sooner_still z p y d (sooner y p e)))
        ∙ ap (λ (t : List Outer). z ∷ t) (goes_past y p ps e))
    by_orders Greater Equal e d more =
        joins z p (with_line y ps) d ∙ sym (goes_past y (with_values p z) ps e)
    by_orders Greater Greater e d more =
        goes_past z p (with_line y ps) d ∙ (ap (λ (t : List Outer). p ∷ t) more ∙ sym (goes_past y p (with_line z ps) e))

-- a line of two goes in as both do
with_both : (y z : Outer) (xs : List Outer) → line_cmp z y ≡ Equal → Bagged y → Bagged z → All Bagged xs
    → with_line (with_values y z) xs ≡ with_line z (with_line y xs)
with_both y z [] e h k l = sym (ap (λ (r : Ordering). put r z y [] (z ∷ [])) e)
with_both y z (p ∷ ps) e h k l = by_order (line_cmp y p) refl (with_both y z ps e h k (All-tail Bagged p ps l))
  where
    by_order : (r : Ordering) → line_cmp y p ≡ r → with_line (with_values y z) ps ≡ with_line z (with_line y ps)
        → put r (with_values y z) p ps (with_line (with_values y z) ps) ≡ with_line z (put r y p ps (with_line y ps))
    by_order Less d more = sym (ap (λ (r : Ordering). put r z y (p ∷ ps) (with_line z (p ∷ ps))) e)
    by_order Equal d more =
        ap (λ (v : Counts). at p.time p.port v ∷ ps) (sym (union_assoc p.values y.values z.values (All-head Bagged p ps l) h k))
        ∙ sym (ap (λ (r : Ordering). put r z (with_values p y) ps (with_line z ps)) (alike z y p e ∙ d))
    by_order Greater d more =
        ap (λ (t : List Outer). p ∷ t) more
        ∙ sym (ap (λ (r : Ordering). put r z p (with_line y ps) (with_line z (with_line y ps))) (alike z y p e ∙ d))

-- a line goes in before others or after them
with_line_last : (z : Outer) (xs ys : List Outer) → Bagged z → All Bagged xs → All Bagged ys
    → with_line z (union_of_lines xs ys) ≡ union_of_lines (with_line z xs) ys
with_line_last z xs [] h k l = refl
with_line_last z xs (y ∷ ys) h k l =
    let first : Bagged y = All-head Bagged y ys l in
    with_line_last z (with_line y xs) ys h (bagged_with y xs first k) (All-tail Bagged y ys l)
    ∙ ap (λ (t : List Outer). union_of_lines t ys) (with_lines_swap y z xs first h k)

with_line_within : (z : Outer) (xs ys : List Outer) → Bagged z → All Bagged xs → All Bagged ys
    → union_of_lines xs (with_line z ys) ≡ with_line z (union_of_lines xs ys)
with_line_within z xs [] h k l = refl
with_line_within z xs (y ∷ ys) h k l =
    by_order (line_cmp z y) refl (with_line_within z (with_line y xs) ys h (bagged_with y xs (All-head Bagged y ys l) k)
    (All-tail Bagged y ys l))
  where
    first : Bagged y
    first = All-head Bagged y ys l

    inside : with_line z (union_of_lines (with_line y xs) ys) ≡ union_of_lines (with_line z (with_line y xs)) ys
    inside = with_line_last z (with_line y xs) ys h (bagged_with y xs first k) (All-tail Bagged y ys l)

    by_order : (r : Ordering) → line_cmp z y ≡ r
        → union_of_lines (with_line y xs) (with_line z ys) ≡ with_line z (union_of_lines (with_line y xs) ys)
        → union_of_lines xs (put r z y ys (with_line z ys)) ≡ with_line z (union_of_lines (with_line y xs) ys)
    by_order Less e more = ap (λ (t : List Outer). union_of_lines t ys) (sym (with_lines_swap y z xs first h k)) ∙ sym inside
    by_order Equal e more = ap (λ (t : List Outer). union_of_lines t ys) (with_both y z xs e first h k) ∙ sym inside
    by_order Greater e more = more

pub union_groups : (xs ys zs : List Outer) → All Bagged xs → All Bagged ys → All Bagged zs
    → union_of_lines xs (union_of_lines ys zs) ≡ union_of_lines (union_of_lines xs ys) zs
union_groups xs ys [] h k l = refl
union_groups xs ys (z ∷ zs) h k l =
    let first : Bagged z = All-head Bagged z zs l in
    union_groups xs (with_line z ys) zs h (bagged_with z ys first k) (All-tail Bagged z zs l)
    ∙ ap (λ (t : List Outer). union_of_lines t zs) (with_line_within z xs ys first h k)

-- ---- lists in turn

united_bagged : (f : ℕ → List Outer) (n : ℕ) → ((p : ℕ) → All Bagged (f p)) → All Bagged (united f n)
united_bagged f zero h = All-nil Bagged
united_bagged f (suc n) h = bagged_union (united f n) (f n) (united_bagged f n h) (h n)

united_lines : (f : ℕ → List Outer) (n : ℕ) → ((p : ℕ) → AreLines (f p)) → AreLines (united f n)
united_lines f zero h = tt
united_lines f (suc n) h = lines_union (united f n) (f n) (united_lines f n h) (bagged (f n) (h n))

united_more : (f : ℕ → List Outer) (m n : ℕ) → ((p : ℕ) → All Bagged (f p))
    → union_of_lines (united f m) (united (λ p. f (m + p)) n) ≡ united f (m + n)
united_more f m zero h = let same : m ≡ m + 0 = omega arith in ap (united f) same
united_more f m (suc n) h =
    let same : suc (m + n) ≡ m + suc n = omega arith in
    union_groups (united f m) (united (λ p. f (m + p)) n) (f (m + n))
    (united_bagged f m h) (united_bagged (λ p. f (m + p)) n (λ p. h (m + p))) (h (m + n))
    ∙ (ap (λ (t : List Outer). union_of_lines t (f (m + n))) (united_more f m n h) ∙ ap (united f) same)

pub united_agree : (f g : ℕ → List Outer) (n : ℕ) → ((p : ℕ) → p < n → f p ≡ g p) → united f n ≡ united g n
united_agree f g zero h = refl
united_agree f g (suc n) h = ap₂ union_of_lines (united_agree f g n (λ p l. h p (omega arith))) (h n (omega arith))

pub united_one : (f : ℕ → List Outer) → AreLines (f 0) → united f 1 ≡ f 0
united_one f h = sym (merged_is_union [] (f 0) h)

-- ---- the next of two lists

pub first_alone : (xs ys rest : List Outer) (r : Option Outer) → length ys ≡ 0 → xs ≡ option_to_list r ++ rest
    → merged_lines xs ys ≡ option_to_list r ++ merged_lines rest ys
first_alone xs [] rest r l e = merged-empty xs ∙ (e ∙ ap (λ (t : List Outer). option_to_list r ++ t) (sym (merged-empty rest)))
first_alone xs (y ∷ ys) rest r l e = absurd (omega arith)

pub second_alone : (xs ys rest : List Outer) (r : Option Outer) → length xs ≡ 0 → ys ≡ option_to_list r ++ rest
    → merged_lines xs ys ≡ option_to_list r ++ merged_lines xs rest
second_alone [] ys rest r l e = e
second_alone (x ∷ xs) ys rest r l e = absurd (omega arith)

pub second_sooner : (x y : Outer) (xs ys rest : List Outer) (r : Option Outer) → 0 < length xs
    → x ≡ slice_index_or xs 0 x → y ≡ slice_index_or ys 0 y → line_cmp y x ≡ Less → ys ≡ option_to_list r ++ rest
    → merged_lines xs ys ≡ option_to_list r ++ merged_lines xs rest
second_sooner x y [] ys rest r l here there t e = absurd (omega arith)
second_sooner x y (x0 ∷ xs) ys rest None l here there t e = ap (merged_lines (x0 ∷ xs)) e
second_sooner x y (x0 ∷ xs) ys rest (Some z) l here there t e =
    let same : z ≡ y = sym (there ∙ ap (λ (t : List Outer). slice_index_or t 0 y) e) in
    ap (merged_lines (x0 ∷ xs)) e
    ∙ ap (λ (r : Ordering). match_ordering r (z ∷ merged_lines (x0 ∷ xs) rest) (with_values x0 z ∷ merged_lines xs rest)
    (x0 ∷ merged_lines xs (z ∷ rest)))
    (ap₂ line_cmp same (sym here) ∙ t)

pub first_sooner : (x y : Outer) (xs ys rest : List Outer) (r : Option Outer) → 0 < length ys
    → x ≡ slice_index_or xs 0 x → y ≡ slice_index_or ys 0 y → line_cmp y x ≡ Greater → xs ≡ option_to_list r ++ rest
    → merged_lines xs ys ≡ option_to_list r ++ merged_lines rest ys
first_sooner x y xs [] rest r l here there t e = absurd (omega arith)
first_sooner x y xs (y0 ∷ ys) rest None l here there t e = ap (λ (l : List Outer). merged_lines l (y0 ∷ ys)) e
first_sooner x y xs (y0 ∷ ys) rest (Some z) l here there t e =
    let same : z ≡ x = sym (here ∙ ap (λ (t : List Outer). slice_index_or t 0 x) e) in
    ap (λ (l : List Outer). merged_lines l (y0 ∷ ys)) e
    ∙ ap (λ (r : Ordering). match_ordering r (y0 ∷ merged_lines (z ∷ rest) ys) (with_values z y0 ∷ merged_lines rest ys)
    (z ∷ merged_lines rest (y0 ∷ ys)))
    (ap₂ line_cmp (sym there) same ∙ t)

-- ---- lists of lines

lines_all : (lists : List (List Outer)) → All AreLines lists → (p : ℕ) → AreLines (list_at lists p)
lines_all lists h p =
    ⊎_elim (λ t. h p [] (ltb-true p (length lists) t))
    (λ f. subst AreLines (sym (get_or_past lists p [] (ltb-false p (length lists) f))) tt)
    (cases_Bool (nat_lt p (length lists)))

pub are_united : (lists : List (List Outer)) → All AreLines lists → AreLines (united (list_at lists) (length lists))
are_united lists h = united_lines (list_at lists) (length lists) (lines_all lists h)

pub one_list : (lists : List (List Outer)) (os : List Outer) → All AreLines lists → lists ≡ os ∷ []
    → os ≡ united (list_at lists) (length lists)
one_list lists os h only =
    subst (λ (l : List (List Outer)). All AreLines l → os ≡ united (list_at l) (length l)) (sym only)
    (λ k. sym (united_one (list_at (os ∷ [])) (lines_all (os ∷ []) k 0))) h

pub two_halves : (lists : List (List Outer)) (m : ℕ) → m ≤ length lists → All AreLines lists
    → union_of_lines
    (united (list_at (take m lists)) (length (take m lists)))
    (united (list_at (drop m lists)) (length (drop m lists)))
    ≡ united (list_at lists) (length lists)
two_halves lists m le h =
    let n : ℕ = length (drop m lists) in
    let front : length (take m lists) ≡ m = omega (arith, length-take m lists) in
    let all : m + n ≡ length lists = omega (arith, length-drop m lists) in
    ap₂ union_of_lines
    (ap (united (list_at (take m lists))) front
    ∙ united_agree (list_at (take m lists)) (list_at lists) m (λ p l. get_or-take m lists p [] l))
    (united_agree (list_at (drop m lists)) (λ p. list_at lists (m + p)) n (λ p l. get_or-drop m lists p []))
    ∙ (united_more (list_at lists) m n (λ p. bagged (list_at lists p) (lines_all lists h p)) ∙ ap (united (list_at lists)) all)
