-- Components that are put back.
use Rattle.std.proofs.Common.{◌≡◌, ℕ, zero, suc, List, [], ◌∷◌, ◌++◌, length, get_or, slice_set, reverse, refl, sym, subst, ap, ◌∙◌, arith}
use Rattle.std.specs.List.{All}
use Rattle.std.proofs.lemmas.List.{length-set, map-set, reverse-append, set-get_or}
use Rattle.dv_react.specs.declared.running.Running.{Running}
use Rattle.dv_share.specs.declared.index.Indexed.{Indexed}
use Rattle.dv_local.specs.Undoing.{time_of_wait, undone, waits_of}

pub all_first : {X : Type 0} (P : X → Type 0) (x : X) (xs : List X) → All P (x ∷ xs) → P x
all_first P x xs h = h 0 x (omega arith)

pub all_rest : {X : Type 0} (P : X → Type 0) (x : X) (xs : List X) → All P (x ∷ xs) → All P xs
all_rest P x xs h = λ k d lt. h (suc k) d (omega (arith, lt))

pub all_last : {X : Type 0} (P : X → Type 0) (xs : List X) (x : X) → All P (xs ++ x ∷ []) → P x
all_last P [] x h = all_first P x [] h
all_last P (y ∷ ys) x h = all_last P ys x (all_rest P y (ys ++ x ∷ []) h)

pub all_join : {X : Type 0} (P : X → Type 0) (x : X) (xs : List X) → P x → All P xs → All P (x ∷ xs)
all_join P x xs p h zero d lt = p
all_join P x xs p h (suc k) d lt = h k d (omega (arith, lt))

pub all_none : {X : Type 0} (P : X → Type 0) → All P []
all_none P k d lt = absurd (omega (arith, lt))

pub all_others : {X : Type 0} (P : X → Type 0) (xs : List X) (x : X) → All P (xs ++ x ∷ []) → All P xs
all_others P [] x h = all_none P
all_others P (y ∷ ys) x h =
    all_join P y ys (all_first P y (ys ++ x ∷ []) h) (all_others P ys x (all_rest P y (ys ++ x ∷ []) h))

-- the last is put back first
pub undone-push : (xs : List (Indexed Running)) (x : Indexed Running) (rs : List Running)
    → undone (xs ++ x ∷ []) rs ≡ undone xs (slice_set rs x.index x.what)
undone-push [] x rs = refl
undone-push (y ∷ ys) x rs = ap (λ (ss : List Running). slice_set ss y.index y.what) (undone-push ys x rs)

pub waits-set : (rs : List Running) (p : ℕ) (r : Running) → waits_of (slice_set rs p r) ≡ slice_set (waits_of rs) p (time_of_wait r.wait)
waits-set rs p r = map-set (λ (s : Running). time_of_wait s.wait) rs p r

pub length-undone : (xs : List (Indexed Running)) (rs : List Running) → length (undone xs rs) ≡ length rs
length-undone [] rs = refl
length-undone (x ∷ xs) rs = length-set (undone xs rs) x.index x.what ∙ length-undone xs rs

-- what stood at an index, put back there, undoes what was put in
pub undone-exchange : (xs : List (Indexed Running)) (rs : List Running) (p : ℕ) (r old : Running) → ((d : Running) → old ≡ get_or rs p d)
    → undone (xs ++ (record { index = p; what = old }) ∷ []) (slice_set rs p r) ≡ undone xs rs
undone-exchange xs rs p r old e =
    undone-push xs (record { index = p; what = old }) (slice_set rs p r)
    ∙ ap (λ (ss : List Running). undone xs ss) (twice rs p ∙ ap (λ (x : Running). slice_set rs p x) (e old) ∙ set-get_or rs p old)
  where
    twice : (ss : List Running) (i : ℕ) → slice_set (slice_set ss i r) i old ≡ slice_set ss i old
    twice [] i = refl
    twice (s ∷ ss) zero = refl
    twice (s ∷ ss) (suc i) = ap (λ (ts : List Running). s ∷ ts) (twice ss i)

pub all_end : {X : Type 0} (P : X → Type 0) (xs : List X) (x : X) → All P xs → P x → All P (xs ++ x ∷ [])
all_end P [] x h p = all_join P x [] p h
all_end P (y ∷ ys) x h p = all_join P y (ys ++ x ∷ []) (all_first P y ys h) (all_end P ys x (all_rest P y ys h) p)

pub all_reverse : {X : Type 0} (P : X → Type 0) (xs : List X) → All P xs → All P (reverse xs)
all_reverse P [] h = h
all_reverse P (x ∷ xs) h =
    subst (All P) (sym (reverse-append (x ∷ []) xs)) (all_end P (reverse xs) x (all_reverse P xs (all_rest P x xs h)) (all_first P x xs h))

pub reverse-twice : {X : Type 0} (xs : List X) → reverse (reverse xs) ≡ xs
reverse-twice [] = refl
reverse-twice (x ∷ xs) =
    ap reverse (reverse-append (x ∷ []) xs) ∙ reverse-append (reverse xs) (x ∷ []) ∙ ap (λ (ys : List _). x ∷ ys) (reverse-twice xs)
