-- The least of clocks.
use Rattle.std.proofs.Common.{◌≡◌, ℕ, zero, suc, ◌<◌, ◌≤◌, min, Bool, true, false, if◌then◌else◌, nat_lt, List, [], ◌∷◌, length}
use Rattle.std.proofs.Common.{Some, refl, sym, ap, ◌∙◌, arith}
use Rattle.std.specs.List.{slice_get}
use Rattle.dv_time.specs.Time.{IsOfRun, is_before, rank}
use Rattle.dv_time.specs.declared.time.Time.{Time}
use Rattle.dv_time.proofs.Ranks.{is_before-rank}
use Rattle.dv_devs.specs.Clocks.{least_rank}
use Rattle.dv_plan.specs.Clocks.{least_after, least_time}
use Rattle.std.proofs.lemmas.Bool.Decides.{nat_tests}

abbrev pub AllOfRun : ℕ → List Time → Type 0
AllOfRun limit ts = (p : ℕ) (t : Time) → slice_get ts p ≡ Some t → IsOfRun limit t

-- no clock is before the least
pub least_below : (limit : ℕ) (ts : List Time) (p : ℕ) (t : Time) → slice_get ts p ≡ Some t → least_rank limit ts ≤ rank limit t
least_below limit [] p t e = absurd (cc)
least_below limit (u ∷ []) zero t e = let same : u ≡ t = cc in let at = ap (rank limit) same in omega (arith, at)
least_below limit (u ∷ []) (suc p) t e = absurd (cc)
least_below limit (u ∷ v ∷ ts) zero t e = let same : u ≡ t = cc in let at = ap (rank limit) same in omega (arith, at)
least_below limit (u ∷ v ∷ ts) (suc p) t e = let rest = least_below limit (v ∷ ts) p t e in omega (arith, rest)

-- where all are at one rank, that is the least
pub least_of_same : (limit n : ℕ) (ts : List Time) → 0 < length ts → ((p : ℕ) (t : Time) → slice_get ts p ≡ Some t → rank limit t ≡ n)
    → least_rank limit ts ≡ n
least_of_same limit n [] some all = absurd (omega arith)
least_of_same limit n (t ∷ []) some all = all 0 t refl
least_of_same limit n (t ∷ u ∷ ts) some all =
    let one = all 0 t refl in
    let rest = least_of_same limit n (u ∷ ts) (omega arith) (λ p v e. all (suc p) v e) in
    omega (arith, one, rest)

-- the least of three ranks
least_of_two : (limit : ℕ) (t u : Time) (us : List Time) (a : Time)
    → rank limit a ≡ min (rank limit t) (rank limit u) → least_rank limit (a ∷ us) ≡ least_rank limit (t ∷ u ∷ us)
least_of_two limit t u [] a e = e
least_of_two limit t u (v ∷ us) a e = omega (arith, e)

chosen_rank : (limit : ℕ) (t u : Time) (test : Bool) → nat_lt (rank limit u) (rank limit t) ≡ test
    → rank limit (if test then u else t) ≡ min (rank limit t) (rank limit u)
chosen_rank limit t u true e = grind (arith, nat_tests)
chosen_rank limit t u false e = grind (arith, nat_tests)

chosen_of_run : (limit : ℕ) (t u : Time) (test : Bool) → IsOfRun limit t → IsOfRun limit u → IsOfRun limit (if test then u else t)
chosen_of_run limit t u true h k = k
chosen_of_run limit t u false h k = h

after_rank : (limit : ℕ) (t : Time) (us : List Time) → IsOfRun limit t → AllOfRun limit us
    → rank limit (least_after t us) ≡ least_rank limit (t ∷ us)
after_rank limit t [] h all = refl
after_rank limit t (u ∷ us) h all =
    let k = all 0 u refl in
    after_rank limit (if is_before u t then u else t) us (chosen_of_run limit t u (is_before u t) h k) (λ p v e. all (suc p) v e)
    ∙ least_of_two limit t u us (if is_before u t then u else t)
    (chosen_rank limit t u (is_before u t) (sym (is_before-rank limit u t k h)))

after_of_run : (limit : ℕ) (t : Time) (us : List Time) → IsOfRun limit t → AllOfRun limit us → IsOfRun limit (least_after t us)
after_of_run limit t [] h all = h
after_of_run limit t (u ∷ us) h all =
    after_of_run limit (if is_before u t then u else t) us (chosen_of_run limit t u (is_before u t) h (all 0 u refl))
    (λ p v e. all (suc p) v e)

-- the rank of the least is the least rank
pub least_time_rank : (limit : ℕ) (ts : List Time) → 0 < length ts → AllOfRun limit ts → rank limit (least_time ts) ≡ least_rank limit ts
least_time_rank limit [] some all = absurd (omega arith)
least_time_rank limit (t ∷ ts) some all = after_rank limit t ts (all 0 t refl) (λ p v e. all (suc p) v e)

pub least_time_of_run : (limit : ℕ) (ts : List Time) → AllOfRun limit ts → IsOfRun limit (least_time ts)
least_time_of_run limit [] all = omega arith
least_time_of_run limit (t ∷ ts) all = after_of_run limit t ts (all 0 t refl) (λ p v e. all (suc p) v e)

-- what is before each of them is before the least
pub least_above : (limit n : ℕ) (ts : List Time) → 0 < length ts
    → ((p : ℕ) (t : Time) → slice_get ts p ≡ Some t → n ≤ rank limit t) → n ≤ least_rank limit ts
least_above limit n [] some all = absurd (omega arith)
least_above limit n (t ∷ []) some all = all 0 t refl
least_above limit n (t ∷ u ∷ ts) some all =
    let one = all 0 t refl in
    let rest = least_above limit n (u ∷ ts) (omega arith) (λ p v e. all (suc p) v e) in
    omega (arith, one, rest)
