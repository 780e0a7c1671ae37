-- What a text meets as a job.
use Rattle.std.proofs.Common.{◌≡◌, ℕ, zero, suc, ◌+◌, Bool, true, false, ◌&&◌, cond, nat_eq, List, [], ◌∷◌, length, Option}
use Rattle.std.proofs.Common.{Some, IsTrue, refl, sym, ap, ◌∙◌, subst, arith}
use Rattle.std.specs.List.{AllByRecursion, slice_get}
use Rattle.std.proofs.lemmas.Bool.Decides.{nat_tests}
use Rattle.dv_time.specs.Time.{earlier, time_of}
use Rattle.dv_time.specs.declared.time.Time.{Time}
use Rattle.dv_syntax.specs.Trees.{AtomicModel, AtomicTree, FileTree}
use Rattle.dv_bag.specs.Bag.{Counts, with_copies}
use Rattle.dv_bag.specs.Inputs.{bags_from, inputs_at, is_at, values_at, values_into}
use Rattle.dv_bag.specs.declared.inputs.Input.{Input}
use Rattle.dv_bag.specs.declared.state.State.{State}
use Rattle.dv_tree.specs.Instances.{Instance, instances, root_inputs}
use Rattle.dv_gen.specs.ModelCode.{IsCompilable, IsCompilableModel}
use Rattle.dv_bound.specs.Response.{response_of}
use Rattle.dv_plain.specs.Source.{outside}
use Rattle.dv_conservative.specs.Promise.{IsAtLeast}
use Rattle.dv_conservative.specs.Responses.{least_response}
use Rattle.dv_conservative.specs.Sound.{AllSound, IsSound, are_of_numbers, is_of_numbers}
use Rattle.dv_conservative.proofs.Numbers.{numbers_with}
use Rattle.dv_conservative.proofs.Sooner.{is_sound_sooner, sooner_first, sooner_second}
use Rattle.law_sound.specs.Jobs.{AllInputNumbers, IsModelOfNumbers, fits_number, responses_of}
use Rattle.law_sound.specs.Kept.{IsOfNumbers, fits_kept}
use Rattle.law_sound.specs.Members.{flat_of, member_of, members_from}

both_true : (a b : Bool) → a ≡ true → b ≡ true → (a && b) ≡ true
both_true a b h k = rw (h, k) refl

-- inputs of numbers stand in bags of numbers
values_numbers : (t : Time) (port : ℕ) (inputs : List Input) (b : Counts) → AllInputNumbers inputs → is_of_numbers b ≡ true →
    is_of_numbers (values_into t port inputs b) ≡ true
values_numbers t port [] b h k = k
values_numbers t port (i ∷ is) b h k = by_test (values_numbers t port is) (is_at t i && nat_eq i.port port)
  where
    by_test : ((b : Counts) → AllInputNumbers is → is_of_numbers b ≡ true → is_of_numbers (values_into t port is b) ≡ true) →
        (here : Bool) →
        is_of_numbers (values_into t port is (cond here (with_copies i.value 1 b) b)) ≡ true
    by_test rest true = rest (with_copies i.value 1 b) h.1 (numbers_with i.value 1 b h.0 k)
    by_test rest false = rest b h.1 k

bags_numbers : (port ports : ℕ) (inputs : List Input) (t : Time) → AllInputNumbers inputs →
    are_of_numbers (bags_from port ports inputs t) ≡ true
bags_numbers port zero inputs t h = refl
bags_numbers port (suc ports) inputs t h =
    both_true (is_of_numbers (values_at t port inputs)) (are_of_numbers (bags_from (port + 1) ports inputs t))
    (values_numbers t port inputs [] h refl) (bags_numbers (port + 1) ports inputs t h)

pub numbers_at : (limit ports : ℕ) (inputs : List Input) → AllInputNumbers inputs → (n : ℕ) →
    IsTrue (are_of_numbers (inputs_at limit ports inputs n))
numbers_at limit ports inputs h n = bags_numbers 0 ports inputs (time_of limit n) h

pub numbers_outside : (limit : ℕ) (f : FileTree) (inputs : List Input) → AllInputNumbers inputs → (n : ℕ) →
    IsTrue (are_of_numbers (outside f limit inputs n))
numbers_outside limit f inputs = numbers_at limit (length (root_inputs f)) inputs

-- an element of a list
at_index : {X : Type 0} (P : X → Type 0) (xs : List X) (j : ℕ) (x : X) → AllByRecursion P xs → slice_get xs j ≡ Some x → P x
at_index P [] j x h e = absurd (cc)
at_index P (y ∷ ys) zero x h e = let same : y ≡ x = cc in subst P same h.0
at_index P (y ∷ ys) (suc j) x h e = at_index P ys j x h.1 e

fits_at_number : (is : List Instance) (j : ℕ) (i : Instance) → slice_get is j ≡ Some i → fits_number is j ≡ fits_kept i.model
fits_at_number [] j i e = absurd (cc)
fits_at_number (x ∷ is) zero i e = let same : x ≡ i = cc in ap (λ (y : Instance). fits_kept y.model) same
fits_at_number (x ∷ is) (suc j) i e = fits_at_number is j i e

-- the response of a process is not above that of a component of it
least_below : (owner : ℕ → ℕ) (base : ℕ) (is : List Instance) (j : ℕ) (i : Instance) → slice_get is j ≡ Some i → (hold : Option ℕ) →
    IsAtLeast (response_of i.model) hold → IsAtLeast (least_response owner (owner (base + j)) base (responses_of is)) hold
least_below owner base [] j i e hold h = absurd (cc)
least_below owner base (x ∷ is) zero i e hold h =
    let same : x ≡ i = cc in
    let own : nat_eq (owner base) (owner (base + 0)) ≡ true = own_number in
    rw own
    (sooner_first (response_of x.model) (least_response owner (owner (base + 0)) (base + 1) (responses_of is)) hold
    (subst (λ (y : Instance). IsAtLeast (response_of y.model) hold) (sym same) h))
  where
    own_number : nat_eq (owner base) (owner (base + 0)) ≡ true
    own_number =
        let here : base + 0 ≡ base = omega arith in
        ap (λ (n : ℕ). nat_eq (owner base) (owner n)) here ∙ grind (arith, nat_tests)
least_below owner base (x ∷ is) (suc j) i e hold h =
    let next : base + 1 + j ≡ base + suc j = omega arith in
    by_test (nat_eq (owner base) (owner (base + suc j)))
    (subst (λ (n : ℕ). IsAtLeast (least_response owner (owner n) (base + 1) (responses_of is)) hold) next
    (least_below owner (base + 1) is j i e hold h))
  where
    by_test : (t : Bool) → IsAtLeast (least_response owner (owner (base + suc j)) (base + 1) (responses_of is)) hold →
        IsAtLeast (cond t (earlier (response_of x.model) (least_response owner (owner (base + suc j)) (base + 1) (responses_of is)))
        (least_response owner (owner (base + suc j)) (base + 1) (responses_of is))) hold
    by_test true rest = sooner_second (response_of x.model) (least_response owner (owner (base + suc j)) (base + 1) (responses_of is))
        hold rest
    by_test false rest = rest

-- all components, by their numbers
each_member : (limit base : ℕ) (fits : ℕ → State → Bool) (r : ℕ → Option ℕ) (is : List Instance) →
    ((j : ℕ) (i : Instance) → slice_get is j ≡ Some i → IsSound (fits (base + j)) (r (base + j)) (member_of limit (base + j) i.model))
    → AllSound fits r (members_from limit base is)
each_member limit base fits r [] h = tt
each_member limit base fits r (i ∷ is) h =
    let here : base + 0 ≡ base = omega arith in (
      subst (λ (n : ℕ). IsSound (fits n) (r n) (member_of limit n i.model)) here (h 0 i refl),
      each_member limit (base + 1) fits r is (λ j x e.
          let next : base + suc j ≡ base + 1 + j = omega arith in
          subst (λ (n : ℕ). IsSound (fits n) (r n) (member_of limit n x.model)) next (h (suc j) x e)),
    )

pub all_sound : (limit : ℕ) (owner : ℕ → ℕ) (f : FileTree)
    (sound : (limit k : ℕ) (m : AtomicTree) → IsCompilable m → IsOfNumbers m → IsSound (fits_kept m) (response_of m) (member_of limit k m))
    → AllByRecursion (λ (i : Instance). IsCompilableModel (AtomicModel i.model)) (instances f)
    → AllByRecursion (λ (i : Instance). IsModelOfNumbers (AtomicModel i.model)) (instances f)
    → AllSound (fits_number (instances f)) (λ k. least_response owner (owner k) 0 (responses_of (instances f))) (flat_of limit f).members
all_sound limit owner f sound compilable numbers =
    let is = instances f in
    each_member limit 0 (fits_number is) (λ k. least_response owner (owner k) 0 (responses_of is)) is (λ j i e.
    let number : j ≡ 0 + j = omega arith in
    let one = sound limit (0 + j) i.model (at_index (λ (i : Instance). IsCompilableModel (AtomicModel i.model)) is j i compilable e)
    (at_index (λ (i : Instance). IsModelOfNumbers (AtomicModel i.model)) is j i numbers e) in
    let test : fits_kept i.model ≡ fits_number is (0 + j) = sym (fits_at_number is j i e) ∙ ap (fits_number is) number in
    subst (λ (t : State → Bool). IsSound t (least_response owner (owner (0 + j)) 0 (responses_of is)) (member_of limit (0 + j) i.model))
    test
    (is_sound_sooner (fits_kept i.model) (response_of i.model) (least_response owner (owner (0 + j)) 0 (responses_of is))
    (member_of limit (0 + j) i.model)
    (least_below owner 0 is j i e) one))
