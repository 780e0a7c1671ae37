-- The lists of a cut, and one more list.
use Rattle.std.proofs.Common.{◌≡◌, ℕ, zero, suc, ◌+◌, ◌-◌, ◌<◌, ◌≤◌, List, [], ◌∷◌, ◌++◌, length, get_or, take, drop, refl, ap}
use Rattle.std.proofs.Common.{arith, ◌∙◌, add-one}
use Rattle.std.specs.Prelude.{slice_range}
use Rattle.std.proofs.lemmas.List.{drop-append-le, drop_at, length-append, length-drop, take-append-le, take_all}
use Rattle.dv_cycles.specs.Cuts.{cut}

-- there are as many lists as indices
pub length-cut : (starts targets : List ℕ) → length (cut starts targets) ≡ length starts
length-cut [] targets = refl
length-cut (start ∷ starts) targets = ap suc (length-cut starts targets)

-- the list at an index
cut_at_suc : (starts targets : List ℕ) (i : ℕ) → i < length starts
    → slice_range targets (get_or starts i 0) (get_or starts (suc i) (length targets)) ≡ get_or (cut starts targets) i []
cut_at_suc [] targets i l = absurd (omega arith)
cut_at_suc (start ∷ starts) targets zero l = refl
cut_at_suc (start ∷ starts) targets (suc i) l = cut_at_suc starts targets i (omega arith)

-- the list at an index
pub cut_at : (starts targets : List ℕ) (i : ℕ) → i < length starts
    → slice_range targets (get_or starts i 0) (get_or starts (i + 1) (length targets)) ≡ get_or (cut starts targets) i []
cut_at starts targets i l = rw add-one (cut_at_suc starts targets i l)

-- a part of a list is one of a longer list
part_longer : (xs ys : List ℕ) (a b : ℕ) → a ≤ length xs → b ≤ length xs → slice_range (xs ++ ys) a b ≡ slice_range xs a b
part_longer xs ys a b l k =
    let fits : b - a ≤ length (drop a xs) = omega (arith, length-drop a xs) in
    ap (take (b - a)) (drop-append-le a xs ys l) ∙ take-append-le (b - a) (drop a xs) ys fits

-- the end of a longer list
part_last : (xs ys : List ℕ) → slice_range (xs ++ ys) (length xs) (length (xs ++ ys)) ≡ ys
part_last xs ys =
    ap (take (length (xs ++ ys) - length xs)) (drop_at xs ys (length xs) refl)
    ∙ take_all (length (xs ++ ys) - length xs) ys (omega (arith, length-append xs ys))

-- the list at the first index is the same in a longer list
cut_head : (start : ℕ) (starts targets more : List ℕ) → start ≤ length targets
    → ((i : ℕ) → i < length starts → get_or starts i 0 ≤ length targets)
    → slice_range (targets ++ more) start (get_or (starts ++ length targets ∷ []) 0 (length (targets ++ more)))
    ≡ slice_range targets start (get_or starts 0 (length targets))
cut_head start [] targets more l within = part_longer targets more start (length targets) l (omega arith)
cut_head start (next ∷ starts) targets more l within = part_longer targets more start next l (within 0 (omega arith))

-- one more index, at the end of a longer list
pub cut_push : (starts targets more : List ℕ) → ((i : ℕ) → i < length starts → get_or starts i 0 ≤ length targets)
    → cut (starts ++ length targets ∷ []) (targets ++ more) ≡ cut starts targets ++ more ∷ []
cut_push [] targets more within = ap (λ xs. xs ∷ []) (part_last targets more)
cut_push (start ∷ starts) targets more within =
    let rest : (i : ℕ) → i < length starts → get_or starts i 0 ≤ length targets = λ i l. within (suc i) (omega arith) in
    let head = cut_head start starts targets more (within 0 (omega arith)) rest in
    let tail = cut_push starts targets more rest in
    ap (λ xs. xs ∷ cut (starts ++ length targets ∷ []) (targets ++ more)) head
    ∙ ap (λ xs. slice_range targets start (get_or starts 0 (length targets)) ∷ xs) tail
