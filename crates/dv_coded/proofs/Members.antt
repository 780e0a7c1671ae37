-- The components of a text, one after the other.
use Rattle.std.proofs.Common.{◌≡◌, ℕ, suc, ◌+◌, ◌<◌, List, [], ◌∷◌, ◌++◌, length, get_or, take, map, refl, ap, sym, ◌∙◌, subst, arith}
use Rattle.std.specs.List.{All}
use Rattle.std.specs.Prelude.{Option, Some, slice_get}
use Rattle.std.proofs.lemmas.List.Elements.{All-cons, All-nil}
use Rattle.std.proofs.lemmas.List.{map_push, take_more}
use Rattle.std.proofs.lemmas.Option.{get_or_from_slice_get, slice_get_within}
use Rattle.dv_bag.specs.declared.response.Response.{Response}
use Rattle.dv_bag.specs.Responses.{ticks_of}
use Rattle.dv_bound.specs.Response.{response_of}
use Rattle.dv_bound.specs.Short.{IsShort}
use Rattle.dv_code.specs.Shape.{Fits, Tables}
use Rattle.law_compiled.specs.Behaviours.{behaviour_by}
use Rattle.dv_conservative.specs.Flat.{Member as Meant}
use Rattle.dv_eval.specs.Scope.{scope_of}
use Rattle.dv_flat.specs.Ends.{output_count}
use Rattle.dv_gen.specs.ModelCode.{phase_codes}
use Rattle.dv_gen.specs.Resolution.{tables_of}
use Rattle.dv_share.specs.Indices.{RiseFrom}
use Rattle.dv_share.specs.Share.{FitsAt, behaviour_of as behaviour_at, member_by, numbers_of}
use Rattle.dv_share.specs.declared.tables.Member.{Member}
use Rattle.law_sound.specs.Members.{member_of, members_from}
use Rattle.dv_syntax.specs.Trees.{AtomicTree}
use Rattle.dv_tree.specs.Instances.{Instance}
use Rattle.dv_coded.specs.Components.{AreMembersFrom, IsMemberOf, IsModelAt, StandsAmong}
use Rattle.dv_coded.specs.Models.{AreProgramsOf, TakesState, behaviour_of}
use Rattle.dv_coded.specs.declared.programs.Programs.{Programs}

-- what is made stays so, where what stands for models stays
pub members-kept : (limit : ℕ) (all more : List Programs) (answers longer : List Response) →
    ((k : ℕ) (m : AtomicTree) → IsModelAt all answers k m → IsModelAt more longer k m) → (n : ℕ) (xs : List Member) (is : List Instance) →
    AreMembersFrom limit all answers n xs is → AreMembersFrom limit more longer n xs is
members-kept limit all more answers longer keeps n [] is h = tt
members-kept limit all more answers longer keeps n (x ∷ xs) [] h = absurd h
members-kept limit all more answers longer keeps n (x ∷ xs) (i ∷ is) h =
    (h.0, (keeps x.model i.model h.1.0, members-kept limit all more answers longer keeps (n + 1) xs is h.1.1))

-- one more
pub members-pushed : (limit : ℕ) (all : List Programs) (answers : List Response) (n k : ℕ) (xs : List Member) (is : List Instance)
    (x : Member) (m : AtomicTree) → k ≡ n + length xs → slice_get (map (λ (i : Instance). i.model) is) (length xs) ≡ Some m →
    IsMemberOf limit k x.model m x → IsModelAt all answers x.model m → AreMembersFrom limit all answers n xs is →
    AreMembersFrom limit all answers n (xs ++ x ∷ []) is
members-pushed limit all answers n k [] [] x m number there member model h = absurd (cc)
members-pushed limit all answers n k [] (i ∷ is) x m number there member model h =
    let same : m ≡ i.model = cc in
    let at : k ≡ n = omega (arith, number) in
    let of_it = subst (λ (t : AtomicTree). IsMemberOf limit n x.model t x) same
    (subst (λ (j : ℕ). IsMemberOf limit j x.model m x) at member) in
    (of_it, (subst (IsModelAt all answers x.model) same model, tt))
members-pushed limit all answers n k (y ∷ xs) [] x m number there member model h = absurd h
members-pushed limit all answers n k (y ∷ xs) (i ∷ is) x m number there member model h =
    (h.0, (h.1.0, members-pushed limit all answers (n + 1) k xs is x m (omega (arith, number)) there member model h.1.1))

-- one more, whose model has an index
pub members-with : (limit : ℕ) (all : List Programs) (answers : List Response) (n k p : ℕ) (xs : List Member) (is : List Instance)
    (x : Member) (m : AtomicTree) → k ≡ n + length xs → slice_get (map (λ (i : Instance). i.model) is) (length xs) ≡ Some m →
    IsMemberOf limit k p m x → IsModelAt all answers p m → AreMembersFrom limit all answers n xs is →
    AreMembersFrom limit all answers n (xs ++ x ∷ []) is
members-with limit all answers n k p xs is x m number there member model h =
    let index = sym member.indexed in
    members-pushed limit all answers n k xs is x m number there (subst (λ (q : ℕ). IsMemberOf limit k q m x) index member)
    (subst (λ (q : ℕ). IsModelAt all answers q m) index model) h

-- the index of a model, and the programs that are read there
pub model-within : (all : List Programs) (answers : List Response) (k : ℕ) (m : AtomicTree) → IsModelAt all answers k m → k < length all
model-within all answers k m h = slice_get_within all k h.programs h.there

pub programs-read : (all : List Programs) (answers : List Response) (k : ℕ) (m : AtomicTree) (p : Programs) → IsModelAt all answers k m →
    p ≡ get_or all k p → AreProgramsOf m p
programs-read all answers k m p h read =
    subst (AreProgramsOf m) (sym (read ∙ get_or_from_slice_get all k h.programs p h.there)) h.of_model

-- a component as the flat model has it
member-is : (limit : ℕ) (all : List Programs) (answers : List Response) (n : ℕ) (x : Member) (m : AtomicTree) →
    IsMemberOf limit n x.model m x → IsModelAt all answers x.model m → member_by behaviour_of limit all x ≡ member_of limit n m
member-is limit all answers n x m member model =
    let behaves : behaviour_at behaviour_of (slice_get all x.model) ≡ behaviour_by (phase_codes m) =
    ap (λ (p : Option Programs). behaviour_at behaviour_of p) model.there ∙ ap behaviour_by model.of_model.phases in
    λ i. record { number = member.numbered i; ports = member.inputs i; behaviour = behaves i; start = member.start i }

pub members-are : (limit : ℕ) (all : List Programs) (answers : List Response) (n : ℕ) (xs : List Member) (is : List Instance) →
    length xs ≡ length is → AreMembersFrom limit all answers n xs is →
    map (member_by behaviour_of limit all) xs ≡ members_from limit n is
members-are limit all answers n [] [] count h = refl
members-are limit all answers n [] (i ∷ is) count h = absurd (cc)
members-are limit all answers n (x ∷ xs) [] count h = absurd h
members-are limit all answers n (x ∷ xs) (i ∷ is) count h =
    let rest = members-are limit all answers (n + 1) xs is (omega (arith, count)) h.1.1 in
    ap (λ (y : Meant). y ∷ map (member_by behaviour_of limit all) xs) (member-is limit all answers n x i.model h.0 h.1.0)
    ∙ ap (λ (ys : List Meant). member_of limit n i.model ∷ ys) rest

pub outputs-are : (limit : ℕ) (all : List Programs) (answers : List Response) (n : ℕ) (xs : List Member) (is : List Instance) →
    length xs ≡ length is → AreMembersFrom limit all answers n xs is →
    map (λ (x : Member). x.outputs) xs ≡ map (λ (i : Instance). output_count i.model) is
outputs-are limit all answers n [] [] count h = refl
outputs-are limit all answers n [] (i ∷ is) count h = absurd (cc)
outputs-are limit all answers n (x ∷ xs) [] count h = absurd h
outputs-are limit all answers n (x ∷ xs) (i ∷ is) count h =
    let rest = outputs-are limit all answers (n + 1) xs is (omega (arith, count)) h.1.1 in
    ap (λ (k : ℕ). k ∷ map (λ (y : Member). y.outputs) xs) h.0.outputs ∙ ap (λ (ks : List ℕ). output_count i.model ∷ ks) rest

-- numbers rise
pub numbers-rise : (limit : ℕ) (all : List Programs) (answers : List Response) (n : ℕ) (xs : List Member) (is : List Instance) →
    AreMembersFrom limit all answers n xs is → RiseFrom n (numbers_of xs)
numbers-rise limit all answers n [] is h = tt
numbers-rise limit all answers n (x ∷ xs) [] h = absurd h
numbers-rise limit all answers n (x ∷ xs) (i ∷ is) h =
    let next : n + 1 ≡ suc x.number = omega (arith, h.0.numbered) in
    (omega (arith, h.0.numbered), subst (λ (k : ℕ). RiseFrom k (numbers_of xs)) next (numbers-rise limit all answers (n + 1) xs is h.1.1))

-- a component stands among the models
stands : (limit : ℕ) (all : List Programs) (answers : List Response) (n : ℕ) (x : Member) (m : AtomicTree) →
    IsMemberOf limit n x.model m x → IsModelAt all answers x.model m → StandsAmong limit all x
stands limit all answers n x m member model = record {
  model = slice_get_within all x.model model.programs model.there;
  wait = member.wait;
  fits = takes;
}
  where
    takes : FitsAt TakesState all x.model x.start.state
    takes a there =
        let same : model.programs ≡ a = cc in
        let tables : tables_of (scope_of m) ≡ a.code.tables.value =
        sym model.of_model.tables ∙ ap (λ (p : Programs). p.code.tables.value) same in
        subst (λ (t : Tables). Fits t.slots x.start.state.variables) tables member.fits

pub all-stand : (limit : ℕ) (all : List Programs) (answers : List Response) (n : ℕ) (xs : List Member) (is : List Instance) →
    AreMembersFrom limit all answers n xs is → All (StandsAmong limit all) xs
all-stand limit all answers n [] is h = All-nil (StandsAmong limit all)
all-stand limit all answers n (x ∷ xs) [] h = absurd h
all-stand limit all answers n (x ∷ xs) (i ∷ is) h =
    All-cons (StandsAmong limit all) x xs (stands limit all answers n x i.model h.0 h.1.0)
    (all-stand limit all answers (n + 1) xs is h.1.1)

-- each has a response
pub all-answer : (limit : ℕ) (all : List Programs) (answers : List Response) (n : ℕ) (xs : List Member) (is : List Instance) →
    AreMembersFrom limit all answers n xs is → All (λ (x : Member). x.model < length answers) xs
all-answer limit all answers n [] is h = All-nil (λ (x : Member). x.model < length answers)
all-answer limit all answers n (x ∷ xs) [] h = absurd h
all-answer limit all answers n (x ∷ xs) (i ∷ is) h =
    All-cons (λ (y : Member). y.model < length answers) x xs (slice_get_within answers x.model h.1.0.response h.1.0.answer)
    (all-answer limit all answers (n + 1) xs is h.1.1)

-- one response more
pub responses-more : (answers rs : List Response) (xs : List Member) (i : ℕ) (x : Member) (r : Response) → i < length xs →
    x ≡ get_or xs i x → slice_get answers x.model ≡ Some r →
    map (λ (q : Response). Some q) rs ≡ map (λ (y : Member). slice_get answers y.model) (take i xs) →
    map (λ (q : Response). Some q) (rs ++ r ∷ []) ≡ map (λ (y : Member). slice_get answers y.model) (take (i + 1) xs)
responses-more answers rs xs i x r within read there h =
    let of_member : Member → Option Response = λ y. slice_get answers y.model in
    let first : Some r ≡ of_member (get_or xs i x) = sym there ∙ ap of_member read in
    map_push (λ (q : Response). Some q) rs r
    ∙ (ap (λ (os : List (Option Response)). os ++ Some r ∷ []) h
    ∙ (ap (λ (o : Option Response). map of_member (take i xs) ++ o ∷ []) first
    ∙ (sym (map_push of_member (take i xs) (get_or xs i x)) ∙ ap (map of_member) (sym (take_more xs i x within)))))

-- that of its model
pub responses-are : (limit : ℕ) (all : List Programs) (answers : List Response) (n : ℕ) (rs : List Response) (xs : List Member)
    (is : List Instance) → length xs ≡ length is → AreMembersFrom limit all answers n xs is →
    map (λ (r : Response). Some r) rs ≡ map (λ (x : Member). slice_get answers x.model) xs →
    map ticks_of rs ≡ map (λ (i : Instance). response_of i.model) is
responses-are limit all answers n [] [] [] count h read = refl
responses-are limit all answers n [] [] (i ∷ is) count h read = absurd (cc)
responses-are limit all answers n [] (x ∷ xs) is count h read = absurd (cc)
responses-are limit all answers n (r ∷ rs) [] is count h read = absurd (cc)
responses-are limit all answers n (r ∷ rs) (x ∷ xs) [] count h read = absurd h
responses-are limit all answers n (r ∷ rs) (x ∷ xs) (i ∷ is) count h read =
    let first : Some r ≡ slice_get answers x.model = cc in
    let others : map (λ (q : Response). Some q) rs ≡ map (λ (y : Member). slice_get answers y.model) xs = cc in
    let same : r ≡ h.1.0.response = let both : Some r ≡ Some h.1.0.response = first ∙ h.1.0.answer in cc in
    let rest = responses-are limit all answers (n + 1) rs xs is (omega (arith, count)) h.1.1 others in
    ap (λ (o : Option ℕ). o ∷ map ticks_of rs) (ap ticks_of same ∙ h.1.0.soonest)
    ∙ ap (λ (os : List (Option ℕ)). response_of i.model ∷ os) rest

-- and it is short
pub responses-short : (limit : ℕ) (all : List Programs) (answers : List Response) (n : ℕ) (rs : List Response) (xs : List Member)
    (is : List Instance) → AreMembersFrom limit all answers n xs is →
    map (λ (r : Response). Some r) rs ≡ map (λ (x : Member). slice_get answers x.model) xs →
    All (λ (r : Response). IsShort (ticks_of r)) rs
responses-short limit all answers n [] xs is h read = All-nil (λ (r : Response). IsShort (ticks_of r))
responses-short limit all answers n (r ∷ rs) [] is h read = absurd (cc)
responses-short limit all answers n (r ∷ rs) (x ∷ xs) [] h read = absurd h
responses-short limit all answers n (r ∷ rs) (x ∷ xs) (i ∷ is) h read =
    let first : Some r ≡ slice_get answers x.model = cc in
    let others : map (λ (q : Response). Some q) rs ≡ map (λ (y : Member). slice_get answers y.model) xs = cc in
    let same : h.1.0.response ≡ r = let both : Some h.1.0.response ≡ Some r = sym (first ∙ h.1.0.answer) in cc in
    All-cons (λ (q : Response). IsShort (ticks_of q)) r rs (subst (λ (q : Response). IsShort (ticks_of q)) same h.1.0.short)
    (responses-short limit all answers (n + 1) rs xs is h.1.1 others)
