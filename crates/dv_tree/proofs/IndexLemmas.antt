-- The index of a name in a list of names.
use Rattle.std.proofs.Common.{◌≡◌, ℕ, suc, ◌+◌, ◌<◌, Bool, true, false, cond, eqb, List, [], ◌∷◌, ◌++◌, length, get_or, take}
use Rattle.std.proofs.Common.{refl, ap, sym, ◌∙◌, arith}
use Rattle.std.proofs.lemmas.List.{take_more, length-take-le}
use Rattle.std.specs.Prelude.{Option, Some, None, option_map}
use Rattle.std.specs.Option.{option_or}
use Rattle.dv_check.specs.Tables.{no_value, with_first}
use Rattle.dv_eval.specs.Scope.{index_from, index_of}

-- counted from one further on
index_from_later : (k name : ℕ) (names : List ℕ) → index_from (k + 1) name names ≡ option_map suc (index_from k name names)
index_from_later k name [] = refl
index_from_later k name (n ∷ names) =
    elim (eqb n name) as (λ b. cond b (Some (k + 1)) (index_from (k + 1 + 1) name names) ≡ option_map suc
    (cond b (Some k) (index_from (k + 1) name names))) [
      | true ↦ ap Some (omega arith)
      | false ↦ index_from_later (k + 1) name names
    ]

-- behind one name more
pub index_of-cons : (name n : ℕ) (names : List ℕ) →
    index_of name (n ∷ names) ≡ cond (eqb n name) (Some 0) (option_map suc (index_of name names))
index_of-cons name n names = ap (λ o. cond (eqb n name) (Some 0) o) (index_from_later 0 name names)

option_or_later : (b : Bool) (o p : Option ℕ) →
    cond b (Some 0) (option_map suc (option_or o p)) ≡ option_or (cond b (Some 0) (option_map suc o)) (option_map suc p)
option_or_later true o p = refl
option_or_later false None p = refl
option_or_later false (Some k) p = refl

later_at : (b : Bool) (k : ℕ) → option_map suc (cond b (Some k) None) ≡ cond b (Some (suc k)) None
later_at true k = refl
later_at false k = refl

-- with one name more at the end
pub index_of-push : (name : ℕ) (names : List ℕ) (n : ℕ) →
    index_of name (names ++ n ∷ []) ≡ option_or (index_of name names) (cond (eqb n name) (Some (length names)) None)
index_of-push name [] n = refl
index_of-push name (m ∷ names) n =
    index_of-cons name m (names ++ n ∷ [])
    ∙ (ap (λ o. cond (eqb m name) (Some 0) (option_map suc o)) (index_of-push name names n)
    ∙ (option_or_later (eqb m name) (index_of name names) (cond (eqb n name) (Some (length names)) None)
    ∙ (ap (λ o. option_or o (option_map suc (cond (eqb n name) (Some (length names)) None))) (sym (index_of-cons name m names))
    ∙ ap (option_or (index_of name (m ∷ names))) (later_at (eqb n name) (length names)))))

-- with one name more of a list
pub index_of-more : (name : ℕ) (names : List ℕ) (i : ℕ) → i < length names →
    index_of name (take (i + 1) names) ≡ option_or (index_of name (take i names)) (cond (eqb (get_or names i 0) name) (Some i) None)
index_of-more name names i within =
    ap (index_of name) (take_more names i 0 within)
    ∙ (index_of-push name (take i names) (get_or names i 0)
    ∙ ap (λ k. option_or (index_of name (take i names)) (cond (eqb (get_or names i 0) name) (Some k) None))
    (length-take-le i names (omega arith)))

-- a directory of first indices, to which the next name is added
pub index_added : (names : List ℕ) (i : ℕ) → i < length names → (firsts : ℕ → Option ℕ) → ((q : ℕ) → firsts q ≡ index_of q (take i names)) →
    (q : ℕ) → with_first firsts (get_or names i 0) i q ≡ index_of q (take (i + 1) names)
unfolding with_first
index_added names i within firsts so_far q =
    ap (λ o. option_or o (cond (eqb (get_or names i 0) q) (Some i) None)) (so_far q) ∙ sym (index_of-more q names i within)

-- a directory without values has no index
pub none_at_first : (firsts : ℕ → Option ℕ) → firsts ≡ no_value → (q : ℕ) → firsts q ≡ None
unfolding no_value
none_at_first firsts e q = ap (λ f. f q) e
