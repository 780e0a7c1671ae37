-- The network of a text and that of its programs and links are alike.
use Rattle.std.proofs.Common.{◌≡◌, ℕ, zero, suc, ◌+◌, Bool, true, List, [], ◌∷◌, map, Option, Result, Ok, Err, IsTrue, refl}
use Rattle.std.proofs.Common.{sym, ap, ◌∙◌, subst, arith}
use Rattle.std.specs.List.{AllByRecursion, list_all}
use Rattle.dv_syntax.specs.Trees.{AtomicModel, AtomicTree, FileTree}
use Rattle.dv_bag.specs.Bag.{Counts}
use Rattle.dv_bag.specs.Outcome.{◌>>=◌}
use Rattle.dv_bag.specs.declared.fault.Fault.{Fault}
use Rattle.dv_bag.specs.declared.state.State.{State}
use Rattle.dv_devs.specs.Behaviour.{end_of_hold}
use Rattle.dv_devs.specs.Fits.{Agrees, AllAgree, AllFit, AllKeep, AreAlike, Keeps, OnlyArrives}
use Rattle.dv_devs.specs.Network.{Network, emissions_at}
use Rattle.dv_eval.specs.Scope.{start_state}
use Rattle.law_accepted.specs.Fitting.{fits}
use Rattle.dv_tree.specs.Instances.{Instance, instances}
use Rattle.dv_tree.specs.Routing.{arrives, leaves}
use Rattle.dv_gen.specs.ModelCode.{IsCompilable, IsCompilableModel, phase_codes}
use Rattle.dv_flat.specs.Carried.{arrives_by_links, leaves_by_links}
use Rattle.dv_plain.specs.Source.{behaviour_of, first_component, network_of, start_of}
use Rattle.law_compiled.specs.Behaviours.{behaviour_by}
use Rattle.law_compiled.specs.Networks.{compiled_network, start_by}

-- whatever comes
abbrev pub anything : List Counts → Bool
anything bags = true

all_come : (received : List (List Counts)) → IsTrue (list_all anything received)
all_come [] = refl
all_come (bags ∷ received) = all_come received

pub anything_comes : (limit : ℕ) (net : Network (List Counts)) (inputs : ℕ → List Counts) (n : ℕ)
    → OnlyArrives anything limit net inputs n
anything_comes limit net inputs n = λ j lt. all_come (net.arrives (emissions_at limit net inputs j) (inputs j))

-- the states that fit the model of a component, by its number; past the last component all do
abbrev pub fits_at : List Instance → ℕ → State → Bool
fits_at [] k = λ s. true
fits_at (i ∷ is) zero = fits i.model
fits_at (i ∷ is) (suc k) = fits_at is k

-- the programs of a model behave as its rules, from its start on
pub record IsFaithful (m : AtomicTree) : Type 0 where
  pub keeps : Keeps (fits m) anything (behaviour_of m)
  pub agrees : Agrees (fits m) anything (behaviour_of m) (behaviour_by (phase_codes m))
  pub start : IsTrue (fits m (start_state m))

-- all components are so
pub all_faithful : ((m : AtomicTree) → IsCompilable m → IsFaithful m) → (is : List Instance)
    → AllByRecursion (λ (i : Instance). IsCompilableModel (AtomicModel i.model)) is
    → AllByRecursion (λ (i : Instance). IsFaithful i.model) is
all_faithful faithful [] all = tt
all_faithful faithful (i ∷ is) all = (faithful i.model all.0, all_faithful faithful is all.1)

state_first : (s : State) (r : Result (Option ℕ) Fault) → (first_component s r).state ≡ s
state_first s (Ok next) = refl
state_first s (Err f) = refl

-- components from a number on, where the tests of their states begin with those of the first
module _ (limit : ℕ) (tests : ℕ → State → Bool) where
  abbrev TestsFrom : ℕ → List Instance → Type 0
  TestsFrom k is = (j n : ℕ) → n ≡ k + j → tests n ≡ fits_at is j

  abbrev AllFaithful : List Instance → Type 0
  AllFaithful is = AllByRecursion (λ (i : Instance). IsFaithful i.model) is

  later : (i : Instance) (is : List Instance) (k : ℕ) → TestsFrom k (i ∷ is) → TestsFrom (k + 1) is
  later i is k at j n e = at (suc j) n (omega (arith, e))

  all_keep : (is : List Instance) (k : ℕ) → TestsFrom k is → AllFaithful is
      → AllKeep tests anything k (map (λ (i : Instance). behaviour_of i.model) is)
  all_keep [] k at all = tt
  all_keep (i ∷ is) k at all = (
    subst (λ test. Keeps test anything (behaviour_of i.model)) (sym (at 0 k (omega arith))) all.0.keeps,
    all_keep is (k + 1) (later i is k at) all.1,
  )

  all_agree : (is : List Instance) (k : ℕ) → TestsFrom k is → AllFaithful is
      → AllAgree tests anything k (map (λ (i : Instance). behaviour_of i.model) is)
      (map (λ (i : Instance). behaviour_by (phase_codes i.model)) is)
  all_agree [] k at all = tt
  all_agree (i ∷ is) k at all = (
    subst (λ test. Agrees test anything (behaviour_of i.model) (behaviour_by (phase_codes i.model))) (sym (at 0 k (omega arith)))
        all.0.agrees,
    all_agree is (k + 1) (later i is k at) all.1,
  )

  starts_fit : (is : List Instance) (k : ℕ) → TestsFrom k is → AllFaithful is
      → AllFit tests k (map (λ (i : Instance). start_of limit i.model) is)
  starts_fit [] k at all = tt
  starts_fit (i ∷ is) k at all =
      let m = i.model in
      let state : (start_of limit m).state ≡ start_state m = state_first (start_state m) _ in
      let test : tests k ≡ fits m = at 0 k (omega arith) in (
        ap (λ (t : State → Bool). t (start_of limit m).state) test ∙ (ap (fits m) state ∙ all.0.start),
        starts_fit is (k + 1) (later i is k at) all.1,
      )

  starts_same : (is : List Instance) → AllFaithful is
      → map (λ (i : Instance). start_of limit i.model) is ≡ map (λ (i : Instance). start_by limit i.model) is
  starts_same [] all = refl
  starts_same (i ∷ is) all =
      let m = i.model in
      let first : start_of limit m ≡ start_by limit m =
      ap (λ (hold : Result (Option ℕ) Fault). first_component (start_state m) (hold >>= end_of_hold limit 0))
      (all.0.agrees.hold (start_state m) all.0.start) in
      ap (λ c. c ∷ map (λ (j : Instance). start_of limit j.model) is) first
      ∙ ap (λ cs. start_by limit m ∷ cs) (starts_same is all.1)

-- where values that are sent travel alike
pub networks_alike : (limit : ℕ) (f : FileTree) (inputs : ℕ → List Counts)
    → AllByRecursion (λ (i : Instance). IsFaithful i.model) (instances f)
    → ((n : ℕ) → arrives_by_links f (emissions_at limit (network_of limit f) inputs n) (inputs n)
    ≡ arrives f (emissions_at limit (network_of limit f) inputs n) (inputs n))
    → ((n : ℕ) → leaves_by_links f (emissions_at limit (network_of limit f) inputs n)
    ≡ leaves f (emissions_at limit (network_of limit f) inputs n))
    → AreAlike (fits_at (instances f)) anything limit (network_of limit f) (compiled_network limit f) inputs
networks_alike limit f inputs all arrive leave =
    let is = instances f in
    let tests = fits_at is in
    let at : TestsFrom limit tests 0 is = λ j n e. ap tests (let same : n ≡ j = omega (arith, e) in same) in
    record {
      keep = all_keep limit tests is 0 at all;
      agree = all_agree limit tests is 0 at all;
      numbers = refl;
      start = starts_same limit tests is all;
      fit = starts_fit limit tests is 0 at all;
      arrives = λ n. sym (arrive n);
      leaves = λ n. sym (leave n);
    }
