-- The components of a text by programs where they lie.
use Rattle.std.proofs.Common.{◌≡◌, ℕ, suc, ◌+◌, ◌<◌, List, [], ◌∷◌, length, map, refl, ap, sym, ◌∙◌, subst, arith}
use Rattle.std.specs.List.{All, AllByRecursion}
use Rattle.std.specs.Prelude.{Option, Some, None, option_map, slice_get}
use Rattle.std.proofs.lemmas.List.{length-map}
use Rattle.std.proofs.lemmas.Option.{slice_get-map}
use Rattle.dv_coded.specs.Components.{StandsAmong}
use Rattle.dv_coded.specs.Lent.{behaviour_of_lent, lent_takes}
use Rattle.dv_coded.specs.Models.{behaviour_of}
use Rattle.dv_coded.specs.declared.lent.Lent.{Lent}
use Rattle.dv_coded.specs.declared.programs.Programs.{Programs}
use Rattle.dv_conservative.specs.Flat.{Member as Meant}
use Rattle.dv_plan.specs.Wholes.{IsMember}
use Rattle.dv_react.specs.Components.{component_of}
use Rattle.dv_share.specs.Share.{behaviour_of as behaviour_at, member_by}
use Rattle.dv_share.specs.declared.tables.Member.{Member}
use Rattle.law_sound.specs.Members.{members_from}
use Rattle.dv_tree.specs.Instances.{Instance}

abbrev pub lie_at : List Lent → List Programs
lie_at lent = map (λ (l : Lent). l.programs.now) lent

behaves : (o : Option Lent) → behaviour_at behaviour_of_lent o ≡ behaviour_at behaviour_of (option_map (λ (l : Lent). l.programs.now) o)
behaves None = refl
behaves (Some l) = refl

-- a component behaves as by the programs themselves
member_lent : (limit : ℕ) (lent : List Lent) (x : Member) → member_by behaviour_of_lent limit lent x
    ≡ member_by behaviour_of limit (lie_at lent) x
member_lent limit lent x =
    let same : behaviour_at behaviour_of_lent (slice_get lent x.model) ≡ behaviour_at behaviour_of (slice_get (lie_at lent) x.model) =
    behaves (slice_get lent x.model) ∙ ap (behaviour_at behaviour_of) (sym (slice_get-map (λ (l : Lent). l.programs.now) lent x.model)) in
    λ i. record { number = x.number; ports = x.inputs; behaviour = same i; start = component_of limit x.start }

members_lie : (limit : ℕ) (lent : List Lent) (xs : List Member) →
    map (member_by behaviour_of_lent limit lent) xs ≡ map (member_by behaviour_of limit (lie_at lent)) xs
members_lie limit lent [] = refl
members_lie limit lent (x ∷ xs) =
    ap (λ (y : Meant). y ∷ map (member_by behaviour_of_lent limit lent) xs) (member_lent limit lent x)
    ∙ ap (λ (ys : List Meant). member_by behaviour_of limit (lie_at lent) x ∷ ys) (members_lie limit lent xs)

pub members_lent : (limit : ℕ) (lent : List Lent) (models : List Programs) (xs : List Member) → lie_at lent ≡ models →
    map (member_by behaviour_of_lent limit lent) xs ≡ map (member_by behaviour_of limit models) xs
members_lent limit lent models xs e = members_lie limit lent xs ∙ ap (λ (ms : List Programs). map (member_by behaviour_of limit ms) xs) e

-- a component stands among programs as among those where they lie
stands_lent : (limit : ℕ) (lent : List Lent) (x : Member) → StandsAmong limit (lie_at lent) x → IsMember lent_takes limit lent x
stands_lent limit lent x h = record {
  model = subst (λ (n : ℕ). x.model < n) (length-map lent (λ (l : Lent). l.programs.now)) h.model;
  wait = h.wait;
  fit = λ a e. h.fits a.programs.now (slice_get-map (λ (l : Lent). l.programs.now) lent x.model
      ∙ ap (option_map (λ (l : Lent). l.programs.now)) e);
}

each : (limit : ℕ) (lent : List Lent) (xs : List Member) → All (StandsAmong limit (lie_at lent)) xs
    → AllByRecursion (IsMember lent_takes limit lent) xs
each limit lent [] h = tt
each limit lent (x ∷ xs) h =
    (stands_lent limit lent x (h 0 x (omega arith)), each limit lent xs (λ k d lt. h (suc k) d (omega (arith, lt))))

pub all_lent : (limit : ℕ) (lent : List Lent) (models : List Programs) (xs : List Member) → lie_at lent ≡ models →
    All (StandsAmong limit models) xs → AllByRecursion (IsMember lent_takes limit lent) xs
all_lent limit lent models xs e h = each limit lent xs (subst (λ (ms : List Programs). All (StandsAmong limit ms) xs) (sym e) h)

-- there are as many components as instances
members_count : (limit n : ℕ) (is : List Instance) → length (members_from limit n is) ≡ length is
members_count limit n [] = refl
members_count limit n (i ∷ is) = ap suc (members_count limit (n + 1) is)

pub as_many : (limit : ℕ) (models : List Programs) (xs : List Member) (is : List Instance) →
    map (member_by behaviour_of limit models) xs ≡ members_from limit 0 is → length xs ≡ length is
as_many limit models xs is e = sym (length-map xs (member_by behaviour_of limit models)) ∙ ap length e ∙ members_count limit 0 is
