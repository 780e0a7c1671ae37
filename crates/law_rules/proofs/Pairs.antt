-- Components in pairs, of which the second behaves as the first in all states that the first can come to.
use Rattle.std.proofs.Common.{◌≡◌, ℕ, zero, suc, ◌+◌, Bool, true, false, cond, List, [], ◌∷◌, map, IsTrue, refl, sym, ap, ◌∙◌}
use Rattle.std.proofs.Common.{subst, arith}
use Rattle.std.specs.List.{filter, list_all}
use Rattle.dv_bag.specs.Bag.{Counts}
use Rattle.dv_bag.specs.declared.state.State.{State}
use Rattle.dv_devs.specs.Behaviour.{Behaviour, Component}
use Rattle.dv_devs.specs.Fits.{Agrees, AllAgree, AllFit, AllKeep, Keeps, OnlyArrives}
use Rattle.dv_devs.specs.Network.{Network, emissions_at}
use Rattle.dv_conservative.specs.Flat.{Member, behaviours, numbers, received}
use Rattle.dv_conservative.specs.Links.{Delivery, inbox}
use Rattle.law_compiled.proofs.Alike.{anything}

all_come : (bags : List (List Counts)) → IsTrue (list_all anything bags)
all_come [] = refl
all_come (b ∷ bags) = all_come bags

pub anything_comes : {I : Type 0} (limit : ℕ) (net : Network I) (inputs : ℕ → I) (n : ℕ) → OnlyArrives anything limit net inputs n
anything_comes limit net inputs n = λ j lt. all_come (net.arrives (emissions_at limit net inputs j) (inputs j))

-- two components with one number, the same ports and the same start, that behave alike from it on
pub record IsPair (a b : Member) : Type 0 where
  pub number : a.number ≡ b.number
  pub ports : a.ports ≡ b.ports
  pub start : a.start ≡ b.start
  pub fits : State → Bool
  pub keeps : Keeps fits anything a.behaviour
  pub agrees : Agrees fits anything a.behaviour b.behaviour
  pub begins : IsTrue (fits a.start.state)

abbrev pub AllPairs : List Member → List Member → Type 0
AllPairs [] [] = Unit {0}
AllPairs [] (b ∷ ns) = ⊥
AllPairs (a ∷ ms) [] = ⊥
AllPairs (a ∷ ms) (b ∷ ns) = IsPair a b × AllPairs ms ns

-- those of a set of numbers are pairs too
pub pairs_among : (who : ℕ → Bool) (ms ns : List Member) → AllPairs ms ns
    → AllPairs (filter (λ (m : Member). who m.number) ms) (filter (λ (m : Member). who m.number) ns)
pairs_among who [] [] pairs = tt
pairs_among who [] (b ∷ ns) pairs = absurd pairs
pairs_among who (a ∷ ms) [] pairs = absurd pairs
pairs_among who (a ∷ ms) (b ∷ ns) pairs =
    by_test (pairs_among who ms ns pairs.1) (who a.number) (who b.number) (ap who pairs.0.number)
  where
    fs : List Member
    fs = filter (λ (m : Member). who m.number) ms

    gs : List Member
    gs = filter (λ (m : Member). who m.number) ns

    by_test : AllPairs fs gs → (t u : Bool) → t ≡ u → AllPairs (cond t (a ∷ fs) fs) (cond u (b ∷ gs) gs)
    by_test rest true true e = (pairs.0, rest)
    by_test rest true false e = absurd (cc)
    by_test rest false true e = absurd (cc)
    by_test rest false false e = rest

pub same_numbers : (ms ns : List Member) → AllPairs ms ns → numbers ms ≡ numbers ns
same_numbers [] [] pairs = refl
same_numbers [] (b ∷ ns) pairs = absurd pairs
same_numbers (a ∷ ms) [] pairs = absurd pairs
same_numbers (a ∷ ms) (b ∷ ns) pairs =
    ap (λ (k : ℕ). k ∷ numbers ms) pairs.0.number ∙ ap (λ (ks : List ℕ). b.number ∷ ks) (same_numbers ms ns pairs.1)

pub same_starts : (ms ns : List Member) → AllPairs ms ns
    → map (λ (m : Member). m.start) ms ≡ map (λ (m : Member). m.start) ns
same_starts [] [] pairs = refl
same_starts [] (b ∷ ns) pairs = absurd pairs
same_starts (a ∷ ms) [] pairs = absurd pairs
same_starts (a ∷ ms) (b ∷ ns) pairs =
    ap (λ (c : Component). c ∷ map (λ (m : Member). m.start) ms) pairs.0.start
    ∙ ap (λ (cs : List Component). b.start ∷ cs) (same_starts ms ns pairs.1)

pub same_received : (ms ns : List Member) (ds : List Delivery) → AllPairs ms ns → received ms ds ≡ received ns ds
same_received [] [] ds pairs = refl
same_received [] (b ∷ ns) ds pairs = absurd pairs
same_received (a ∷ ms) [] ds pairs = absurd pairs
same_received (a ∷ ms) (b ∷ ns) ds pairs =
    ap (λ (k : ℕ). inbox k ds 0 a.ports ∷ received ms ds) pairs.0.number
    ∙ ap (λ (ports : ℕ). inbox b.number ds 0 ports ∷ received ms ds) pairs.0.ports
    ∙ ap (λ (bags : List (List Counts)). inbox b.number ds 0 b.ports ∷ bags) (same_received ms ns ds pairs.1)

-- of none of them anything is sent
pub same_silence : (ms ns : List Member) → AllPairs ms ns
    → map (λ (b : Behaviour). let none : List Counts = [] in none) (behaviours ms)
    ≡ map (λ (b : Behaviour). let none : List Counts = [] in none) (behaviours ns)
same_silence [] [] pairs = refl
same_silence [] (b ∷ ns) pairs = absurd pairs
same_silence (a ∷ ms) [] pairs = absurd pairs
same_silence (a ∷ ms) (b ∷ ns) pairs = ap (λ (rest : List (List Counts)). [] ∷ rest) (same_silence ms ns pairs.1)

-- the states that fit a pair, by its index; past the last pair all do
abbrev pub fits_at : (ms ns : List Member) → AllPairs ms ns → ℕ → State → Bool
fits_at [] [] pairs k = λ s. true
fits_at [] (b ∷ ns) pairs k = absurd pairs
fits_at (a ∷ ms) [] pairs k = absurd pairs
fits_at (a ∷ ms) (b ∷ ns) pairs zero = pairs.0.fits
fits_at (a ∷ ms) (b ∷ ns) pairs (suc k) = fits_at ms ns pairs.1 k

-- pairs from an index on, where the tests of their states begin with those of the first
module _ (tests : ℕ → State → Bool) where
  abbrev pub TestsFrom : ℕ → (ms ns : List Member) → AllPairs ms ns → Type 0
  TestsFrom k ms ns pairs = (j n : ℕ) → n ≡ k + j → tests n ≡ fits_at ms ns pairs j

  later : (a b : Member) (ms ns : List Member) (pairs : AllPairs (a ∷ ms) (b ∷ ns)) (k : ℕ) → TestsFrom k (a ∷ ms) (b ∷ ns) pairs
      → TestsFrom (k + 1) ms ns pairs.1
  later a b ms ns pairs k at j n e = at (suc j) n (omega (arith, e))

  pub all_keep : (ms ns : List Member) (pairs : AllPairs ms ns) (k : ℕ) → TestsFrom k ms ns pairs
      → AllKeep tests anything k (behaviours ms)
  all_keep [] [] pairs k at = tt
  all_keep [] (b ∷ ns) pairs k at = absurd pairs
  all_keep (a ∷ ms) [] pairs k at = absurd pairs
  all_keep (a ∷ ms) (b ∷ ns) pairs k at = (
    subst (λ test. Keeps test anything a.behaviour) (sym (at 0 k (omega arith))) pairs.0.keeps,
    all_keep ms ns pairs.1 (k + 1) (later a b ms ns pairs k at),
  )

  pub all_agree : (ms ns : List Member) (pairs : AllPairs ms ns) (k : ℕ) → TestsFrom k ms ns pairs
      → AllAgree tests anything k (behaviours ms) (behaviours ns)
  all_agree [] [] pairs k at = tt
  all_agree [] (b ∷ ns) pairs k at = absurd pairs
  all_agree (a ∷ ms) [] pairs k at = absurd pairs
  all_agree (a ∷ ms) (b ∷ ns) pairs k at = (
    subst (λ test. Agrees test anything a.behaviour b.behaviour) (sym (at 0 k (omega arith))) pairs.0.agrees,
    all_agree ms ns pairs.1 (k + 1) (later a b ms ns pairs k at),
  )

  pub all_fit : (ms ns : List Member) (pairs : AllPairs ms ns) (k : ℕ) → TestsFrom k ms ns pairs
      → AllFit tests k (map (λ (m : Member). m.start) ms)
  all_fit [] [] pairs k at = tt
  all_fit [] (b ∷ ns) pairs k at = absurd pairs
  all_fit (a ∷ ms) [] pairs k at = absurd pairs
  all_fit (a ∷ ms) (b ∷ ns) pairs k at = (
    subst (λ (test : State → Bool). IsTrue (test a.start.state)) (sym (at 0 k (omega arith))) pairs.0.begins,
    all_fit ms ns pairs.1 (k + 1) (later a b ms ns pairs k at),
  )
