-- The lists of arrivals: in that of each probe stand the targets where the probe is, with how often it is there.
use Rattle.std.proofs.Common.{◌≡◌, ℕ, zero, suc, ◌+◌, ◌<◌, ◌≤◌, List, [], ◌∷◌, ◌++◌, length, map, drop}
use Rattle.std.proofs.Common.{get_or, replicate, ℤ, pos, negsuc, refl, ap, sym, ◌∙◌, arith}
use Rattle.std.specs.Prelude.{fold, Option, Some, None}
use Rattle.std.specs.List.{cons_option, filter_map, flat_map}
use Rattle.std.proofs.lemmas.Int.{ints}
use Rattle.std.proofs.lemmas.List.{append-nil, append_assoc, at_drop_more, get_or-map, get_or-replicate, get_or-set_same}
use Rattle.std.proofs.lemmas.List.{get_or-set_other, length-replicate, length-set}
use Rattle.dv_bag.specs.Bag.{Counts, IsBag, count_of}
use Rattle.dv_bag.proofs.Monoid.{by_order, count_below}
use Rattle.dv_bag.proofs.Pairs.{bag_from_above, cmp_equal, cmp_greater, cmp_less}
use Rattle.dv_flat.specs.Links.{link, links_from}
use Rattle.dv_flat.specs.Probes.{arrival, links_of, links_to, with_arrival, with_arrivals}
use Rattle.dv_flat.specs.declared.arrivals.Arrival.{Arrival}
use Rattle.dv_flat.specs.declared.link.Link.{Link}

module _ {T : Type 0} where
  length-with_arrival : (v : ℤ) (a : Arrival T) (lists : List (List (Arrival T))) → length (with_arrival v a lists) ≡ length lists
  length-with_arrival (pos t) a lists = length-set lists t (get_or lists t [] ++ a ∷ [])
  length-with_arrival (negsuc n) a lists = refl

  length-with_arrivals : (to : T) (bag : Counts) (lists : List (List (Arrival T))) → length (with_arrivals to lists bag) ≡ length lists
  length-with_arrivals to [] lists = refl
  length-with_arrivals to (p ∷ ps) lists =
      length-with_arrivals to ps (with_arrival p.0 (record { to = to; copies = p.1 }) lists)
      ∙ length-with_arrival p.0 (record { to = to; copies = p.1 }) lists

  -- an arrival is in the list of its probe, and in no other
  arrival_elsewhere : (v : ℤ) (a : Arrival T) (lists : List (List (Arrival T))) (t : ℕ) → (pos t ≡ v → ⊥) →
      get_or (with_arrival v a lists) t [] ≡ get_or lists t []
  arrival_elsewhere (pos s) a lists t apart = get_or-set_other lists s t (get_or lists s [] ++ a ∷ []) [] (λ same. apart (ap pos same))
  arrival_elsewhere (negsuc n) a lists t apart = refl

  arrival_there : (v : ℤ) (a : Arrival T) (lists : List (List (Arrival T))) (t : ℕ) → pos t ≡ v → t < length lists →
      get_or (with_arrival v a lists) t [] ≡ get_or lists t [] ++ a ∷ []
  arrival_there v a lists t same within =
      ap (λ w. get_or (with_arrival w a lists) t []) (sym same) ∙ get_or-set_same lists t (get_or lists t [] ++ a ∷ []) [] within

  one_arrival : (to : T) (n : ℕ) → 0 < n → Some (record { to = to; copies = n }) ≡ arrival to n
  one_arrival to zero some = absurd (omega (arith, some))
  one_arrival to (suc n) some = refl

  -- with all that stands at a target
  arrivals_there : (to : T) (bag : Counts) (lists : List (List (Arrival T))) (t : ℕ) → IsBag bag → t < length lists →
      get_or (with_arrivals to lists bag) t [] ≡ get_or lists t [] ++ cons_option (arrival to (count_of (pos t) bag)) []
  arrivals_there to [] lists t h within = sym (append-nil (get_or lists t []))
  arrivals_there to (p ∷ ps) lists t h within =
      let a : Arrival T = record { to = to; copies = p.1 } in
      let old = get_or lists t [] in
      let rest = arrivals_there to ps (with_arrival p.0 a lists) t (bag_from_above p.0 ps h.2)
      (omega (arith, within, length-with_arrival p.0 a lists)) in
      by_order (pos t) p.0
      (λ lt.
      let none = count_below p.0 (pos t) ps h.2 (λ above. absurd (omega (arith, ints))) in
      rest
      ∙ (ap (λ xs. xs ++ cons_option (arrival to (count_of (pos t) ps)) [])
      (arrival_elsewhere p.0 a lists t (λ e. absurd (omega (arith, ints))))
      ∙ ap (λ n. old ++ cons_option (arrival to n) []) (none ∙ sym (rw (cmp_less (pos t) p.0 lt) refl))))
      (λ e.
      let none = count_below p.0 (pos t) ps h.2 (λ above. absurd (omega (arith, ints))) in
      let count : p.1 ≡ count_of (pos t) (p ∷ ps) = sym (rw (cmp_equal (pos t) p.0 e) refl) in
      rest
      ∙ (ap (λ n. get_or (with_arrival p.0 a lists) t [] ++ cons_option (arrival to n) []) none
      ∙ (append-nil (get_or (with_arrival p.0 a lists) t [])
      ∙ (arrival_there p.0 a lists t e within
      ∙ (ap (λ o. old ++ cons_option o []) (one_arrival to p.1 h.0) ∙ ap (λ n. old ++ cons_option (arrival to n) []) count)))))
      (λ gt.
      rest
      ∙ (ap (λ xs. xs ++ cons_option (arrival to (count_of (pos t) ps)) [])
      (arrival_elsewhere p.0 a lists t (λ e. absurd (omega (arith, ints))))
      ∙ ap (λ n. old ++ cons_option (arrival to n) []) (sym (rw (cmp_greater (pos t) p.0 gt) refl))))

  -- with all targets
  module _ (bags : T → Counts) (are_bags : (to : T) → IsBag (bags to)) where
    abbrev with_target : List (List (Arrival T)) → T → List (List (Arrival T))
    with_target lists to = with_arrivals to lists (bags to)

    length-with_targets : (tos : List T) (lists : List (List (Arrival T))) → length (fold with_target lists tos) ≡ length lists
    length-with_targets [] lists = refl
    length-with_targets (to ∷ tos) lists =
        length-with_targets tos (with_target lists to) ∙ length-with_arrivals to (bags to) lists

    joined : (o : Option (Arrival T)) (xs ys : List (Arrival T)) → (xs ++ cons_option o []) ++ ys ≡ xs ++ cons_option o ys
    joined None xs ys = ap (λ zs. zs ++ ys) (append-nil xs)
    joined (Some a) xs ys = append_assoc xs (a ∷ []) ys

    targets_there : (tos : List T) (lists : List (List (Arrival T))) (t : ℕ) → t < length lists →
        get_or (fold with_target lists tos) t [] ≡ get_or lists t [] ++ filter_map (λ to. arrival to (count_of (pos t) (bags to))) tos
    targets_there [] lists t within = sym (append-nil (get_or lists t []))
    targets_there (to ∷ tos) lists t within =
        let rest = filter_map (λ x. arrival x (count_of (pos t) (bags x))) tos in
        targets_there tos (with_target lists to) t (omega (arith, within, length-with_arrivals to (bags to) lists))
        ∙ (ap (λ xs. xs ++ rest) (arrivals_there to (bags to) lists t (are_bags to) within)
        ∙ joined (arrival to (count_of (pos t) (bags to))) (get_or lists t []) rest)

    -- from no arrivals on
    pub all_there : (tos : List T) (n t : ℕ) → t < n →
        get_or (fold with_target (replicate n []) tos) t [] ≡ filter_map (λ to. arrival to (count_of (pos t) (bags to))) tos
    all_there tos n t within =
        targets_there tos (replicate n []) t (omega (arith, within, length-replicate {A = List (Arrival T)} n []))
        ∙ ap (λ xs. xs ++ filter_map (λ to. arrival to (count_of (pos t) (bags to))) tos) (get_or-replicate n t [] [] within)

    pub length-all : (tos : List T) (n : ℕ) → length (fold with_target (replicate n []) tos) ≡ n
    length-all tos n = length-with_targets tos (replicate n []) ∙ length-replicate {A = List (Arrival T)} n []

-- the arrivals of a source as its links
first_made : {From To : Type 0} (from : From) (to : To) (n : ℕ) (rest : List (Arrival To)) →
    links_to from (cons_option (arrival to n) rest) ≡ cons_option (link from to n) (links_to from rest)
first_made from to zero rest = refl
first_made from to (suc n) rest = refl

arrivals_made : {From To : Type 0} (from : From) (copies : From → To → ℕ) (tos : List To) →
    links_to from (filter_map (λ to. arrival to (copies from to)) tos) ≡ links_from copies tos from
arrivals_made from copies [] = refl
arrivals_made from copies (to ∷ tos) =
    first_made from to (copies from to) (filter_map (λ x. arrival x (copies from x)) tos)
    ∙ ap (cons_option (link from to (copies from to))) (arrivals_made from copies tos)

-- arrivals that are counted alike
arrivals_same : {T : Type 0} (m n : T → ℕ) (tos : List T) → ((to : T) → m to ≡ n to) →
    filter_map (λ to. arrival to (m to)) tos ≡ filter_map (λ to. arrival to (n to)) tos
arrivals_same m n [] same = refl
arrivals_same m n (to ∷ tos) same =
    ap (λ k. cons_option (arrival to k) (filter_map (λ x. arrival x (m x)) tos)) (same to)
    ∙ ap (cons_option (arrival to (n to))) (arrivals_same m n tos same)

-- the links of all sources, where those of each are known
links_each : {From To : Type 0} (lists : List (List (Arrival To))) (links : From → List (Link From To)) (d : From) (k : ℕ)
    (froms : List From) →
    ((j : ℕ) → j < length froms → links_to (get_or froms j d) (get_or lists (k + j) []) ≡ links (get_or froms j d)) →
    links_of lists k froms ≡ flat_map links froms
links_each lists links d k [] h = refl
links_each lists links d k (from ∷ froms) h =
    let here : k ≡ k + 0 = omega arith in
    let first : 0 < length (from ∷ froms) = omega arith in
    ap (λ i. links_to from (get_or lists i []) ++ links_of lists (suc k) froms) here
    ∙ (ap (λ xs. xs ++ links_of lists (suc k) froms) (h 0 first)
    ∙ ap (λ xs. links from ++ xs)
    (links_each lists links d (suc k) froms
    (λ j within.
    ap (λ i. links_to (get_or froms j d) (get_or lists i [])) (let same : suc k + j ≡ k + suc j = omega arith in same)
    ∙ h (suc j) (omega (arith, within)))))

-- the links of sources whose probes stand in the bags at the targets, from one probe on
pub links_found : {From To : Type 0} (copies : From → To → ℕ) (tos : List To) (bags : To → Counts) →
    ((to : To) → IsBag (bags to)) → (n k : ℕ) (froms : List From) (d : From) → k + length froms ≤ n →
    ((j : ℕ) → j < length froms → (to : To) → count_of (pos (k + j)) (bags to) ≡ copies (get_or froms j d) to) →
    links_of (fold (λ lists to. with_arrivals to lists (bags to)) (replicate n []) tos) k froms ≡ flat_map (links_from copies tos) froms
links_found {From = From} {To = To} copies tos bags are_bags n k froms d within counts =
    let lists : List (List (Arrival To)) = fold (λ ls to. with_arrivals to ls (bags to)) (replicate n []) tos in
    links_each lists (links_from copies tos) d k froms
    (λ j early.
    let from = get_or froms j d in
    ap (links_to from)
    (all_there bags are_bags tos n (k + j) (omega (arith, within, early))
    ∙ arrivals_same (λ to. count_of (pos (k + j)) (bags to)) (copies from) tos (counts j early))
    ∙ arrivals_made from copies tos)

-- one arrival more in the loop over those of a source
pub links_added : {From To : Type 0} (from : From) (arrivals : List (Arrival To)) (i : ℕ) (a : Arrival To)
    (before after all : List (Link From To)) → i < length arrivals → a ≡ get_or arrivals i a →
    after ≡ before ++ links_to from (a ∷ []) → before ++ links_to from (drop i arrivals) ≡ all →
    after ++ links_to from (drop (i + 1) arrivals) ≡ all
links_added from arrivals i a before after all within read added so_far =
    let rest = drop (i + 1) arrivals in
    ap (λ links. links ++ links_to from rest) added
    ∙ (append_assoc before (links_to from (a ∷ [])) (links_to from rest)
    ∙ (ap (λ links. before ++ links)
    (ap (λ b. links_to from (b ∷ rest)) read ∙ sym (at_drop_more (links_to from) arrivals i a within)) ∙ so_far))

-- one source more in the loop over all
pub links_step : {V From To : Type 0} (items : V → List (Arrival To)) (all : List V) (first k : ℕ) (froms : List From)
    (from : From) (list : V) (before after whole : List (Link From To)) → k < length froms → from ≡ get_or froms k from →
    first + k < length all → list ≡ get_or all (first + k) list → after ≡ before ++ links_to from (items list) →
    before ++ links_of (map items all) (first + k) (drop k froms) ≡ whole →
    after ++ links_of (map items all) (first + (k + 1)) (drop (k + 1) froms) ≡ whole
links_step items all first k froms from list before after whole within read stands found added so_far =
    let lists = map items all in
    let rest = drop (k + 1) froms in
    let next = links_of lists (first + (k + 1)) rest in
    let here : items list ≡ get_or lists (first + k) [] =
    ap items found ∙ sym (get_or-map items all (first + k) list [] stands) in
    ap (λ links. links ++ next) added
    ∙ (append_assoc before (links_to from (items list)) next
    ∙ (ap (λ links. before ++ links)
    (ap (λ xs. links_to from xs ++ next) here
    ∙ (ap (λ i. links_to from (get_or lists (first + k) []) ++ links_of lists i rest)
    (let same : first + (k + 1) ≡ suc (first + k) = omega arith in same)
    ∙ (ap (λ x. links_of lists (first + k) (x ∷ rest)) read
    ∙ sym (at_drop_more (links_of lists (first + k)) froms k from within)))) ∙ so_far))
