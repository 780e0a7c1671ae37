-- Runs of bytes that pass a test.
use Rattle.std.proofs.Common.{◌≡◌, ℕ, ◌+◌, ◌≤◌, suc, Bool, true, List, [], ◌∷◌, ◌++◌, length, take, drop, refl, sym, arith}
use Rattle.std.specs.List.{list_all, prefix_len, take_while}
use Rattle.std.proofs.lemmas.List.{take-append-drop}
use Rattle.std.proofs.lemmas.List.Folds.{length-prefix_len}
use Rattle.std.proofs.lemmas.Bool.{and_parts, and_from, cond_both}
use Rattle.dv_lex.specs.Steps.{Ends, SplitsRun}

one-add : (n : ℕ) → 1 + n ≡ suc n
one-add n = omega arith

-- the front that passes passes, and what follows it does not begin with a byte that passes
list_all-front : (p : ℕ → Bool) (xs : List ℕ) → list_all p (take (prefix_len p xs) xs) ≡ true
list_all-front p [] = refl
list_all-front p (x ∷ xs) =
    cond_both (p x) (1 + prefix_len p xs) 0 (λ n. list_all p (take n (x ∷ xs)) ≡ true)
    (λ h. rw (one-add (prefix_len p xs)) (and_from _ _ h (list_all-front p xs)))
    (λ _. refl)

Ends-rest : (p : ℕ → Bool) (xs : List ℕ) → Ends p (drop (prefix_len p xs) xs)
Ends-rest p [] = tt
Ends-rest p (x ∷ xs) =
    cond_both (p x) (1 + prefix_len p xs) 0 (λ n. Ends p (drop n (x ∷ xs)))
    (λ _. rw (one-add (prefix_len p xs)) (Ends-rest p xs))
    (λ h. h)

-- a cut behind the front that passes
pub SplitsRun-cut : (p : ℕ → Bool) (xs : List ℕ) (n : ℕ) → n ≡ length (take_while p xs) → SplitsRun p xs (take n xs) (drop n xs)
SplitsRun-cut p xs n e =
    rw (e, length-prefix_len p xs)
    (record { whole = sym (take-append-drop (prefix_len p xs) xs); each = list_all-front p xs; ends = Ends-rest p xs })

-- no longer front passes
pub run_longest : (p : ℕ → Bool) (run rest longer more : List ℕ) → Ends p rest → run ++ rest ≡ longer ++ more → list_all p longer ≡ true →
    length longer ≤ length run
run_longest p run rest [] more h e q = omega arith
run_longest p [] [] (c ∷ longer) more h e q = cc
run_longest p [] (b ∷ rest) (c ∷ longer) more h e q = let t = and_parts (p c) (list_all p longer) q in cc
run_longest p (b ∷ run) rest (c ∷ longer) more h e q =
    let t : run ++ rest ≡ longer ++ more = cc in
    omega (arith, run_longest p run rest longer more h t ((and_parts (p c) (list_all p longer) q).1))
