-- What a loop over a list has put together, with what the rest of the list gives, is what the whole list gives.
use Rattle.std.proofs.Common.{◌≡◌, ℕ, List, [], ◌∷◌, ◌++◌, ◌+◌, ◌<◌, length, get_or, drop, ap, sym, ◌∙◌}
use Rattle.std.proofs.lemmas.List.{append-nil, append_assoc, drop_more}
use Rattle.std.specs.Prelude.{Option, Some, None}
use Rattle.std.specs.List.{cons_option, filter_map}

abbrev pub Gathers : {X Y : Type 0} → (List X → List Y) → List Y → ℕ → List X → Type 0
Gathers G ys i xs = ys ++ G (drop i xs) ≡ G xs

-- with what one more gives
pub gathered_more : {X Y : Type 0} (G : List X → List Y) (ys next : List Y) (i : ℕ) (xs : List X) (x d : X) (y z : Y) →
    i < length xs → x ≡ get_or xs i d → y ≡ z → next ≡ ys ++ y ∷ [] → Gathers G ys i xs → ((rest : List X) → G (x ∷ rest) ≡ z ∷ G rest) →
    Gathers G next (i + 1) xs
gathered_more G ys next i xs x d y z within is y_is next_is gathered gives =
    let rest = drop (i + 1) xs in
    ap (λ all. all ++ G rest) next_is
    ∙ (append_assoc ys (y ∷ []) (G rest)
    ∙ (ap (λ v. ys ++ v ∷ G rest) y_is
    ∙ (ap (λ all. ys ++ all) (sym (gives rest) ∙ (ap (λ v. G (v ∷ rest)) is ∙ ap G (sym (drop_more xs i d within)))) ∙ gathered)))

-- what is found stands before the rest
pub put_before : {Y : Type 0} (ys : List Y) (o : Option Y) (rest : List Y) → (ys ++ cons_option o []) ++ rest ≡ ys ++ cons_option o rest
put_before ys None rest = ap (λ all. all ++ rest) (append-nil ys)
put_before ys (Some y) rest = append_assoc ys (y ∷ []) rest

-- one found, or none
pub one_found : {Y : Type 0} (ys next : List Y) (y : Y) (o : Option Y) → o ≡ Some y → next ≡ ys ++ y ∷ [] → next ≡ ys ++ cons_option o []
one_found ys next y o is next_is = next_is ∙ ap (λ v. ys ++ cons_option v []) (sym is)

pub none_found : {Y : Type 0} (ys next : List Y) (o : Option Y) → o ≡ None → next ≡ ys → next ≡ ys ++ cons_option o []
none_found ys next o is next_is = next_is ∙ (sym (append-nil ys) ∙ ap (λ v. ys ++ cons_option v []) (sym is))

-- with what one more gives, if anything
pub gathered_found : {X Y : Type 0} (f : X → Option Y) (ys next : List Y) (i : ℕ) (xs : List X) (d : X) (o : Option Y) →
    i < length xs → o ≡ f (get_or xs i d) → next ≡ ys ++ cons_option o [] → Gathers (filter_map f) ys i xs →
    Gathers (filter_map f) next (i + 1) xs
gathered_found f ys next i xs d o within is next_is gathered =
    let rest = filter_map f (drop (i + 1) xs) in
    ap (λ all. all ++ rest) next_is
    ∙ (put_before ys o rest
    ∙ (ap (λ v. ys ++ cons_option v rest) is ∙ (ap (λ all. ys ++ filter_map f all) (sym (drop_more xs i d within)) ∙ gathered)))
