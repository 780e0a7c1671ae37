-- How a run walks over inputs: from the index of a rank to that of the next.
use Rattle.std.proofs.Common.{◌≡◌, ℕ, ◌+◌, ◌<◌, ◌≤◌, Bool, true, false, cond, List, [], ◌∷◌, replicate, filter, Option, Some, None}
use Rattle.std.proofs.Common.{IfSome, refl, sym, ap, ◌∙◌, arith}
use Rattle.std.proofs.lemmas.Bool.{false≢true, le-ltb, lt-ltb, ltb-false}
use Rattle.std.proofs.lemmas.Bool.Decides.{nat_tests}
use Rattle.dv_time.specs.Time.{IsOfRun, is_before, rank, time_of}
use Rattle.dv_time.specs.declared.time.Time.{Time}
use Rattle.dv_time.proofs.Ranks.{is_before-rank}
use Rattle.dv_bag.specs.Inputs.{IsFrom, IsByTime, inputs_at, inputs_before, is_at, is_passed, next_from, start_of, time_at}
use Rattle.dv_bag.specs.declared.inputs.Input.{Input}
use Rattle.dv_bag.proofs.InputLists.{at_none_earlier, none_at, not_passed, nothing_put, one_more}
use Rattle.dv_bag.proofs.InputLists.{passed_not_at}

-- the input at the index of a time
pub next_at_index : (limit : ℕ) (t : Time) (inputs : List Input) → time_at inputs (inputs_before limit inputs t) ≡ next_from limit inputs t
next_at_index limit t [] = refl
next_at_index limit t (i ∷ inputs) = step (next_at_index limit t inputs) (is_passed limit t i)
  where
    step : time_at inputs (inputs_before limit inputs t) ≡ next_from limit inputs t → (b : Bool)
        → time_at (i ∷ inputs) (cond b (1 + inputs_before limit inputs t) 0) ≡ cond b (next_from limit inputs t) (Some i.time)
    step rest true =
        ap (λ (n : ℕ). time_at (i ∷ inputs) n) (one_more (inputs_before limit inputs t)) ∙ rest
    step rest false = refl

-- it is not before the time, and of the run
pub next_is_coming : (limit : ℕ) (t : Time) (inputs : List Input)
    → IfSome (next_from limit inputs t) (λ u. (is_before u t ≡ false) × IsOfRun limit u)
next_is_coming limit t [] = tt
next_is_coming limit t (i ∷ inputs) = step (next_is_coming limit t inputs) (is_passed limit t i) refl
  where
    step : IfSome (next_from limit inputs t) (λ u. (is_before u t ≡ false) × IsOfRun limit u) → (b : Bool) → is_passed limit t i ≡ b
        → IfSome (cond b (next_from limit inputs t) (Some i.time)) (λ u. (is_before u t ≡ false) × IsOfRun limit u)
    step rest true e = rest
    step rest false e = not_passed limit t i e

-- what is passed by on the way to a time is so on the way to a later one
passed_on : (limit : ℕ) (t u : Time) (i : Input) → is_before u t ≡ false → is_passed limit t i ≡ true → is_passed limit u i ≡ true
passed_on limit t u i le e = grind (arith, nat_tests)

not_passed_yet : (limit : ℕ) (t u : Time) (i : Input) → is_passed limit t i ≡ false → is_before i.time u ≡ false
    → is_passed limit u i ≡ false
not_passed_yet limit t u i e le = grind (arith, nat_tests)

pub indices_rise : (limit : ℕ) (t u : Time) (inputs : List Input) → is_before u t ≡ false
    → inputs_before limit inputs t ≤ inputs_before limit inputs u
indices_rise limit t u [] le = omega arith
indices_rise limit t u (i ∷ inputs) le = step (indices_rise limit t u inputs le) (is_passed limit t i) (is_passed limit u i) refl refl
  where
    step : inputs_before limit inputs t ≤ inputs_before limit inputs u → (a b : Bool) → is_passed limit t i ≡ a
        → is_passed limit u i ≡ b → cond a (1 + inputs_before limit inputs t) 0 ≤ cond b (1 + inputs_before limit inputs u) 0
    step rest true true ea eb = omega (arith, rest)
    step rest true false ea eb = absurd (false≢true (sym eb ∙ passed_on limit t u i le ea))
    step rest false b ea eb = omega arith

pub same_index : (limit : ℕ) (t u : Time) (inputs : List Input) → is_before u t ≡ false
    → IfSome (next_from limit inputs t) (λ v. is_before v u ≡ false) → inputs_before limit inputs u ≡ inputs_before limit inputs t
same_index limit t u [] le next = refl
same_index limit t u (i ∷ inputs) le next = step (same_index limit t u inputs le) (is_passed limit t i) (is_passed limit u i) refl refl next
  where
    step : (IfSome (next_from limit inputs t) (λ v. is_before v u ≡ false) → inputs_before limit inputs u ≡ inputs_before limit inputs t)
        → (a b : Bool) → is_passed limit t i ≡ a → is_passed limit u i ≡ b
        → IfSome (cond a (next_from limit inputs t) (Some i.time)) (λ v. is_before v u ≡ false)
        → cond b (1 + inputs_before limit inputs u) 0 ≡ cond a (1 + inputs_before limit inputs t) 0
    step rest true true ea eb far = ap (λ (n : ℕ). 1 + n) (rest far)
    step rest true false ea eb far = absurd (false≢true (sym eb ∙ passed_on limit t u i le ea))
    step rest false true ea eb far = absurd (false≢true (sym (not_passed_yet limit t u i ea far) ∙ eb))
    step rest false false ea eb far = refl

-- before the next input to which the run comes none is at a time of it
none_between : (limit : ℕ) (low t now : Time) (inputs : List Input) → IsFrom low inputs → is_before now t ≡ false → IsOfRun limit now
    → IfSome (next_from limit inputs t) (λ v. is_before now v ≡ true) → filter (is_at now) inputs ≡ []
none_between limit low t now [] h le run next = refl
none_between limit low t now (i ∷ inputs) h le run next =
    step (none_between limit i.time t now inputs h.2 le run) (is_passed limit t i) refl next
  where
    but : is_at now i ≡ false → filter (is_at now) inputs ≡ [] → filter (is_at now) (i ∷ inputs) ≡ []
    but other rest = ap (λ (b : Bool). cond b (i ∷ filter (is_at now) inputs) (filter (is_at now) inputs)) other ∙ rest

    step : (IfSome (next_from limit inputs t) (λ v. is_before now v ≡ true) → filter (is_at now) inputs ≡ [])
        → (b : Bool) → is_passed limit t i ≡ b
        → IfSome (cond b (next_from limit inputs t) (Some i.time)) (λ v. is_before now v ≡ true) → filter (is_at now) (i ∷ inputs) ≡ []
    step rest true e far = but (passed_not_at limit t now i run le e) (rest far)
    step rest false e far = but (at_none_earlier now i far) (none_at i.time now inputs h.2 far)

-- what two facts of a time that may come give together
coming_with : (o : Option Time) (P Q R : Time → Type 0) → ((t : Time) → P t → Q t → R t) → IfSome o P → IfSome o Q → IfSome o R
coming_with None P Q R f h k = tt
coming_with (Some t) P Q R f h k = f t h k

time_of_run : (limit n : ℕ) → IsOfRun limit (time_of limit n)
time_of_run limit n = omega arith

rank_at_time : (limit n : ℕ) → rank limit (time_of limit n) ≡ n
rank_at_time limit n = omega arith

times_rise : (limit n m : ℕ) → n ≤ m → is_before (time_of limit m) (time_of limit n) ≡ false
times_rise limit n m le =
    is_before-rank limit (time_of limit m) (time_of limit n) (time_of_run limit m) (time_of_run limit n)
    ∙ le-ltb (rank limit (time_of limit m)) (rank limit (time_of limit n)) (omega (arith, rank_at_time limit m, rank_at_time limit n, le))

-- a time of the run at a rank or later, and one past it
at_or_past : (limit n : ℕ) (t : Time) → IsOfRun limit t → n ≤ rank limit t → is_before t (time_of limit n) ≡ false
at_or_past limit n t run le =
    is_before-rank limit t (time_of limit n) run (time_of_run limit n)
    ∙ le-ltb (rank limit t) (rank limit (time_of limit n)) (omega (arith, rank_at_time limit n, le))

rank_at_or_past : (limit n : ℕ) (t : Time) → IsOfRun limit t → is_before t (time_of limit n) ≡ false → n ≤ rank limit t
rank_at_or_past limit n t run e =
    let order = sym (is_before-rank limit t (time_of limit n) run (time_of_run limit n)) ∙ e in
    omega (arith, rank_at_time limit n, ltb-false (rank limit t) (rank limit (time_of limit n)) order)

past : (limit n : ℕ) (t : Time) → IsOfRun limit t → n < rank limit t → is_before (time_of limit n) t ≡ true
past limit n t run lt =
    is_before-rank limit (time_of limit n) t (time_of_run limit n) run
    ∙ lt-ltb (rank limit (time_of limit n)) (rank limit t) (omega (arith, rank_at_time limit n, lt))

pub next_of_run : (limit : ℕ) (t : Time) (inputs : List Input) → IfSome (next_from limit inputs t) (IsOfRun limit)
next_of_run limit t inputs =
    let h = next_is_coming limit t inputs in
    coming_with (next_from limit inputs t) _ _ _ (λ u k _. k.1) h h

pub next_not_before : (limit n : ℕ) (inputs : List Input) → IfSome (next_from limit inputs (time_of limit n)) (λ t. n ≤ rank limit t)
next_not_before limit n inputs =
    let h = next_is_coming limit (time_of limit n) inputs in
    coming_with (next_from limit inputs (time_of limit n)) _ _ _ (λ t k _. rank_at_or_past limit n t k.1 k.0) h h

pub ranks_rise : (limit n m : ℕ) (inputs : List Input) → n ≤ m
    → inputs_before limit inputs (time_of limit n) ≤ inputs_before limit inputs (time_of limit m)
ranks_rise limit n m inputs le = indices_rise limit (time_of limit n) (time_of limit m) inputs (times_rise limit n m le)

pub same_rank : (limit n m : ℕ) (inputs : List Input) → n ≤ m → IfSome (next_from limit inputs (time_of limit n)) (λ t. m ≤ rank limit t)
    → inputs_before limit inputs (time_of limit m) ≡ inputs_before limit inputs (time_of limit n)
same_rank limit n m inputs le next =
    same_index limit (time_of limit n) (time_of limit m) inputs (times_rise limit n m le)
    (coming_with (next_from limit inputs (time_of limit n)) _ _ _ (λ t run far. at_or_past limit m t run far)
    (next_of_run limit (time_of limit n) inputs) next)

pub between : (limit ports n m : ℕ) (inputs : List Input) → IsByTime inputs → n ≤ m
    → IfSome (next_from limit inputs (time_of limit n)) (λ t. m < rank limit t) → inputs_at limit ports inputs m ≡ replicate ports []
between limit ports n m inputs h le next =
    nothing_put ports (time_of limit m) inputs
    (none_between limit (start_of 0) (time_of limit n) (time_of limit m) inputs h (times_rise limit n m le) (time_of_run limit m)
    (coming_with (next_from limit inputs (time_of limit n)) _ _ _ (λ t run far. past limit m t run far)
    (next_of_run limit (time_of limit n) inputs) next))
