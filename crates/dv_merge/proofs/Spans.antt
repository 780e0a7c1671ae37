-- Spans of entries, cut and merged.
use Rattle.std.proofs.Common.{◌≡◌, ℕ, suc, ◌+◌, ◌-◌, ◌<◌, ◌≤◌, true, false, List, [], ◌∷◌, ◌++◌, length, take, drop, slice_get, Some, refl, sym}
use Rattle.std.proofs.Common.{ap, ap₂, subst, ◌∙◌, arith}
use Rattle.std.proofs.Math.Seq.{drop-append_seam}
use Rattle.std.specs.List.{All, flat_map}
use Rattle.std.proofs.lemmas.Bool.{cond-true, cond-false}
use Rattle.std.proofs.lemmas.List.Elements.{All-head, All-nil, All-tail}
use Rattle.std.proofs.lemmas.List.{length-append, take_all, take_at}
use Rattle.std.proofs.lemmas.Option.{slice_get_within}
use Rattle.dv_bag.specs.declared.entry.Entry.{Entry}
use Rattle.dv_written.proofs.Lines.{text_cut}
use Rattle.dv_merge.specs.Entries.{merged, precedes}
use Rattle.dv_merge.proofs.Merging.{flips, merged-empty}

-- the lines of the first entries
pub text_shorter : {X : Type 0} (line : X → List ℕ) (es : List X) (n : ℕ)
    → length (flat_map line (take n es)) ≤ length (flat_map line es)
text_shorter line es n =
    let both = ap length (text_cut line es n) ∙ length-append (flat_map line (take n es)) (flat_map line (drop n es)) in
    omega (arith, both)

pub text_front : {X : Type 0} (line : X → List ℕ) (es : List X) (n : ℕ)
    → take (length (flat_map line (take n es))) (flat_map line es) ≡ flat_map line (take n es)
text_front line es n =
    let front = flat_map line (take n es) in
    ap (take (length front)) (text_cut line es n) ∙ take_at front (flat_map line (drop n es)) (length front) refl

-- the lines behind those of the first entries
pub text_behind : {X : Type 0} (line : X → List ℕ) (es : List X) (n : ℕ)
    → drop (length (flat_map line (take n es))) (flat_map line es) ≡ flat_map line (drop n es)
text_behind line es n =
    let front = flat_map line (take n es) in
    ap (drop (length front)) (text_cut line es n) ∙ drop-append_seam front (flat_map line (drop n es))

-- what holds of the first entries behind the first one
pub behind_first : (P : Entry → Type 0) (n : ℕ) (xs : List Entry) → All P (take n (take (length xs - 1) (drop 1 xs)))
    → All P (drop 1 (take (1 + n) xs))
behind_first P n xs h = subst (λ (m : ℕ). All P (drop 1 (take m xs))) next (by_list xs h)
  where
    next : suc n ≡ 1 + n
    next = omega arith

    by_list : (xs : List Entry) → All P (take n (take (length xs - 1) (drop 1 xs))) → All P (drop 1 (take (suc n) xs))
    by_list [] h = All-nil P
    by_list (x ∷ xs) h =
        let count : length (x ∷ xs) - 1 ≡ length xs = omega arith in
        subst (λ (ys : List Entry). All P (take n ys)) (ap (λ (m : ℕ). take m xs) count ∙ take_all (length xs) xs (omega arith)) h

-- ---- what is taken of two lists

pub first_alone : (xs ys part rest : List Entry) → ys ≡ [] → xs ≡ part ++ rest → merged xs ys ≡ part ++ merged rest ys
first_alone xs ys part rest none is =
    ap (merged xs) none
    ∙ (merged-empty xs ∙ (is ∙ ap (λ (t : List Entry). part ++ t) (sym (ap (merged rest) none ∙ merged-empty rest))))

pub second_alone : (xs ys part rest : List Entry) → xs ≡ [] → ys ≡ part ++ rest → merged xs ys ≡ part ++ merged xs rest
second_alone xs ys part rest none is =
    ap (λ (t : List Entry). merged t ys) none
    ∙ (is ∙ ap (λ (t : List Entry). part ++ t) (sym (ap (λ (t : List Entry). merged t rest) none)))

abbrev AreBefore : Entry → List Entry → Type 0
AreBefore bound es = All (λ (e : Entry). precedes e bound ≡ true) es

-- what precedes the first entry of the other list comes before it
first_more : (y : Entry) (xs rest ys : List Entry) → AreBefore y xs → merged (xs ++ rest) (y ∷ ys) ≡ xs ++ merged rest (y ∷ ys)
first_more y [] rest ys h = refl
first_more y (x ∷ xs) rest ys h =
    cond-false (precedes y x) (y ∷ merged (x ∷ (xs ++ rest)) ys) (x ∷ merged (xs ++ rest) (y ∷ ys))
    (flips x y (All-head (λ (e : Entry). precedes e y ≡ true) x xs h))
    ∙ ap (λ (es : List Entry). x ∷ es) (first_more y xs rest ys (All-tail (λ (e : Entry). precedes e y ≡ true) x xs h))

second_more : (x : Entry) (xs ys rest : List Entry) → AreBefore x ys → merged (x ∷ xs) (ys ++ rest) ≡ ys ++ merged (x ∷ xs) rest
second_more x xs [] rest h = refl
second_more x xs (y ∷ ys) rest h =
    cond-true (precedes y x) (y ∷ merged (x ∷ xs) (ys ++ rest)) (x ∷ merged xs (y ∷ (ys ++ rest)))
    (All-head (λ (e : Entry). precedes e x ≡ true) y ys h)
    ∙ ap (λ (es : List Entry). y ∷ es) (second_more x xs ys rest (All-tail (λ (e : Entry). precedes e x ≡ true) y ys h))

-- the first entry of a list
first_of : (x y : Entry) (xs : List Entry) → slice_get (x ∷ xs) 0 ≡ Some y → x ≡ y
first_of x y xs at = cc

-- the first list goes on
pub first_goes_on : (x y : Entry) (xs part rest ys : List Entry) → slice_get xs 0 ≡ Some x → slice_get ys 0 ≡ Some y
    → precedes y x ≡ false → xs ≡ part ++ rest → 0 < length part → AreBefore y (drop 1 part)
    → merged xs ys ≡ part ++ merged rest ys
first_goes_on x y xs [] rest ys at also t is some h = absurd (omega (arith, some))
first_goes_on x y xs (z ∷ zs) rest [] at also t is some h = absurd (omega (arith, slice_get_within [] 0 y also))
first_goes_on x y xs (z ∷ zs) rest (w ∷ ws) at also t is some h =
    let z_is : z ≡ x = first_of z x (zs ++ rest) (ap (λ (es : List Entry). slice_get es 0) (sym is) ∙ at) in
    let w_is : w ≡ y = first_of w y ws also in
    ap (λ (es : List Entry). merged es (w ∷ ws)) is
    ∙ (cond-false (precedes w z) (w ∷ merged (z ∷ (zs ++ rest)) ws) (z ∷ merged (zs ++ rest) (w ∷ ws))
    (ap₂ precedes w_is z_is ∙ t)
    ∙ ap (λ (es : List Entry). z ∷ es) (first_more w zs rest ws (subst (λ (b : Entry). AreBefore b zs) (sym w_is) h)))

-- the second list goes on
pub second_goes_on : (x y : Entry) (xs part rest ys : List Entry) → slice_get xs 0 ≡ Some x → slice_get ys 0 ≡ Some y
    → precedes y x ≡ true → ys ≡ part ++ rest → 0 < length part → AreBefore x (drop 1 part)
    → merged xs ys ≡ part ++ merged xs rest
second_goes_on x y xs [] rest ys at also t is some h = absurd (omega (arith, some))
second_goes_on x y [] (z ∷ zs) rest ys at also t is some h = absurd (omega (arith, slice_get_within [] 0 x at))
second_goes_on x y (w ∷ ws) (z ∷ zs) rest ys at also t is some h =
    let z_is : z ≡ y = first_of z y (zs ++ rest) (ap (λ (es : List Entry). slice_get es 0) (sym is) ∙ also) in
    let w_is : w ≡ x = first_of w x ws at in
    ap (merged (w ∷ ws)) is
    ∙ (cond-true (precedes z w) (z ∷ merged (w ∷ ws) (zs ++ rest)) (w ∷ merged ws (z ∷ (zs ++ rest)))
    (ap₂ precedes z_is w_is ∙ t)
    ∙ ap (λ (es : List Entry). z ∷ es) (second_more w ws zs rest (subst (λ (b : Entry). AreBefore b zs) (sym w_is) h)))
