-- How a run walks over inputs.
use Rattle.std.proofs.Common.{◌≡◌, ℕ, suc, ◌+◌, ◌<◌, ◌≤◌, Bool, true, false, cond, nat_lt, List, [], replicate, Option, Some, None}
use Rattle.std.proofs.Common.{refl, ap, sym, ◌∙◌, subst, arith}
use Rattle.std.specs.Prelude.{IfSome}
use Rattle.std.proofs.lemmas.Bool.{ltb-true, ltb-false}
use Rattle.dv_time.specs.Time.{IsOfRun, rank, succ, time_of}
use Rattle.dv_time.specs.declared.time.Time.{Time}
use Rattle.dv_time.proofs.Ranks.{time_of-rank}
use Rattle.dv_bag.specs.Inputs.{inputs_at, inputs_before, next_from, start_of, time_at}
use Rattle.dv_bag.specs.declared.inputs.Input.{Input}
use Rattle.dv_bag.proofs.InputWalks.{ranks_rise}
use Rattle.dv_devs.specs.NextTimes.{IsFrom}
use Rattle.dv_plain.specs.InputTimes.{IsOfRunIf, rank_if}

-- What the laws of inputs say of these: a walk over them misses none.
pub record InputLaws (limit ports : ℕ) (inputs : List Input) : Type 0 where
  pub next : (t : Time) → time_at inputs (inputs_before limit inputs t) ≡ next_from limit inputs t
  pub of_run : (t : Time) → IfSome (next_from limit inputs t) (IsOfRun limit)
  pub not_before : (n : ℕ) → IfSome (next_from limit inputs (time_of limit n)) (λ t. n ≤ rank limit t)
  pub same : (n m : ℕ) → n ≤ m → IfSome (next_from limit inputs (time_of limit n)) (λ t. m ≤ rank limit t) →
      inputs_before limit inputs (time_of limit m) ≡ inputs_before limit inputs (time_of limit n)
  pub between : (n m : ℕ) → n ≤ m → IfSome (next_from limit inputs (time_of limit n)) (λ t. m < rank limit t) →
      inputs_at limit ports inputs m ≡ replicate ports []

-- the index in the inputs at a rank: that of the first to which the run comes there or later
abbrev pub IsIndex : ℕ → List Input → ℕ → ℕ → Type 0
IsIndex limit inputs at index = index ≡ inputs_before limit inputs (time_of limit at)

-- the time of a rank
time_at-first : (limit : ℕ) → start_of 0 ≡ time_of limit 0
time_at-first limit =
    let first : rank limit (start_of 0) ≡ 0 = omega arith in
    sym (time_of-rank limit (start_of 0) (omega arith)) ∙ ap (time_of limit) first

time_at-next : (limit : ℕ) (t : Time) → IsOfRun limit t → succ limit t ≡ time_of limit (suc (rank limit t))
time_at-next limit t run = step (nat_lt t.micro limit) refl
  where
    step : (more : Bool) → nat_lt t.micro limit ≡ more →
        (let u : Time = cond more (record { tick = t.tick; micro = t.micro + 1 }) (record { tick = t.tick + 1; micro = 0 }) in
        u ≡ time_of limit (suc (rank limit t)))
    step true e =
        let u : Time = record { tick = t.tick; micro = t.micro + 1 } in
        let lt = ltb-true t.micro limit e in
        let next : rank limit u ≡ suc (rank limit t) = omega arith in
        sym (time_of-rank limit u (omega (arith, lt))) ∙ ap (time_of limit) next
    step false e =
        let u : Time = record { tick = t.tick + 1; micro = 0 } in
        let ge = ltb-false t.micro limit e in
        let next : rank limit u ≡ suc (rank limit t) = omega (arith, ge, run) in
        sym (time_of-rank limit u (omega arith)) ∙ ap (time_of limit) next

-- a rank that is from another on, where there is one
from-some : (limit n : ℕ) (t : Option Time) → IsFrom n (rank_if limit t) → IfSome t (λ u. n ≤ rank limit u)
from-some limit n None h = tt
from-some limit n (Some t) h = h

some-from : (limit n : ℕ) (t : Option Time) → IfSome t (λ u. n ≤ rank limit u) → IsFrom n (rank_if limit t)
some-from limit n None h = tt
some-from limit n (Some t) h = h

past : (limit k m : ℕ) (t : Option Time) → k < m → IfSome t (λ u. m ≤ rank limit u) → IfSome t (λ u. k < rank limit u)
past limit k m None lt h = tt
past limit k m (Some t) lt h = omega (arith, lt, h)

pub index-start : (limit : ℕ) (inputs : List Input) (index : ℕ) → index ≡ inputs_before limit inputs (start_of 0) →
    IsIndex limit inputs 0 index
index-start limit inputs index e = e ∙ ap (inputs_before limit inputs) (time_at-first limit)

pub index-after : (limit : ℕ) (inputs : List Input) (t : Time) (index : ℕ) → IsOfRun limit t →
    index ≡ inputs_before limit inputs (succ limit t) → IsIndex limit inputs (suc (rank limit t)) index
index-after limit inputs t index run e = e ∙ ap (inputs_before limit inputs) (time_at-next limit t run)

-- from an instant to the next the index moves on
pub index-moves : (limit : ℕ) (inputs : List Input) (t : Time) → IsOfRun limit t →
    inputs_before limit inputs t ≤ inputs_before limit inputs (succ limit t)
index-moves limit inputs t run =
    let n = rank limit t in
    let here = ap (inputs_before limit inputs) (time_of-rank limit t run) in
    let there = ap (inputs_before limit inputs) (time_at-next limit t run) in
    omega (arith, here, there, ranks_rise limit n (suc n) inputs (omega arith))

module _ (limit ports : ℕ) (inputs : List Input) (at index : ℕ) (laws : InputLaws limit ports inputs)
    (p : IsIndex limit inputs at index) where
  -- the input at the index is the next to which the run comes
  here : time_at inputs index ≡ next_from limit inputs (time_of limit at)
  here = ap (time_at inputs) p ∙ laws.next (time_of limit at)

  coming : (m : ℕ) → IsFrom m (rank_if limit (time_at inputs index)) →
      IfSome (next_from limit inputs (time_of limit at)) (λ t. m ≤ rank limit t)
  coming m from = from-some limit m _ (subst (λ (t : Option Time). IsFrom m (rank_if limit t)) here from)

  -- its time is one of the run
  pub index-of_run : IsOfRunIf limit (time_at inputs index)
  index-of_run = subst (IsOfRunIf limit) (sym here) (laws.of_run (time_of limit at))

  -- and not before the rank
  pub index-rises : IsFrom at (rank_if limit (time_at inputs index))
  index-rises = subst (λ (t : Option Time). IsFrom at (rank_if limit t)) (sym here) (some-from limit at _ (laws.not_before at))

  -- the index at a rank is that at the next instant, where no input comes before it
  pub index-now : (t : Time) → IsOfRun limit t → at ≤ rank limit t → IsFrom (rank limit t) (rank_if limit (time_at inputs index)) →
      index ≡ inputs_before limit inputs t
  index-now t run le from =
      p ∙ sym (laws.same at (rank limit t) le (coming (rank limit t) from)) ∙ ap (inputs_before limit inputs) (time_of-rank limit t run)

  -- from a rank on nothing comes in before the next input
  pub none_between : (m k : ℕ) → IsFrom m (rank_if limit (time_at inputs index)) → at ≤ k → k < m →
      inputs_at limit ports inputs k ≡ replicate ports []
  none_between m k from le below = laws.between at k le (past limit k m _ below (coming m from))
