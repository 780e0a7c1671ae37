-- What a process of a text starts from.
use Rattle.std.proofs.Common.{◌≡◌, ℕ, suc, ◌+◌, ◌<◌, ◌≤◌, false, nat_eq, List, [], ◌∷◌, map, Option, Result, Ok, Err, IfOk, refl, arith}
use Rattle.std.specs.List.{list_any}
use Rattle.std.proofs.lemmas.Bool.Decides.{nat_tests}
use Rattle.dv_bag.specs.Outcome.{◌>>=◌}
use Rattle.dv_bag.specs.declared.fault.Fault.{Fault}
use Rattle.dv_bag.specs.declared.state.State.{State}
use Rattle.dv_devs.specs.Behaviour.{end_of_hold}
use Rattle.dv_devs.specs.Cuts.{RiseFrom}
use Rattle.dv_devs.specs.NextTimes.{AllFrom, IsFrom}
use Rattle.dv_eval.specs.Scope.{start_state}
use Rattle.dv_tree.specs.Instances.{Instance}
use Rattle.dv_gen.specs.ModelCode.{phase_codes}
use Rattle.dv_plain.specs.Source.{first_component}
use Rattle.law_compiled.specs.Behaviours.{behaviour_by}
use Rattle.dv_conservative.specs.Flat.{Member}
use Rattle.dv_proc.specs.Arriving.{AreApart}
use Rattle.law_sound.specs.Members.{members_from}

-- no hold that begins at 0.0 ends there
first_later : (s : State) (r : Result (Option ℕ) Fault) → IfOk r (IsFrom 1) → IsFrom 1 (first_component s r).next
first_later s (Ok next) h = h
first_later s (Err f) h = tt

ends_later : (ends : (limit now : ℕ) (ticks : Option ℕ) → IfOk (end_of_hold limit now ticks) (IsFrom (suc now))) (limit : ℕ)
    (held : Result (Option ℕ) Fault) → IfOk (held >>= end_of_hold limit 0) (IsFrom 1)
ends_later ends limit (Ok ticks) = ends limit 0 ticks
ends_later ends limit (Err f) = tt

pub members_later : ((limit now : ℕ) (ticks : Option ℕ) → IfOk (end_of_hold limit now ticks) (IsFrom (suc now))) → (limit k : ℕ)
    (is : List Instance) → AllFrom 1 (map (λ (m : Member). m.start) (members_from limit k is))
members_later ends limit k [] = tt
members_later ends limit k (i ∷ is) = (
  first_later (start_state i.model) ((behaviour_by (phase_codes i.model)).hold (start_state i.model) >>= end_of_hold limit 0)
      (ends_later ends limit ((behaviour_by (phase_codes i.model)).hold (start_state i.model))),
  members_later ends limit (k + 1) is,
)

-- numbers that rise are apart
not_among : (n low : ℕ) (ks : List ℕ) → n < low → RiseFrom low ks → list_any (nat_eq n) ks ≡ false
not_among n low [] lt h = refl
not_among n low (k ∷ ks) lt h =
    let above : low ≤ k = h.0 in
    let differs : nat_eq n k ≡ false = grind (arith, nat_tests) in
    rw differs (not_among n (suc k) ks (omega arith) h.1)

pub rising_apart : (low : ℕ) (ks : List ℕ) → RiseFrom low ks → AreApart ks
rising_apart low [] h = tt
rising_apart low (k ∷ ks) h = (not_among k (suc k) ks (omega arith) h.1, rising_apart (suc k) ks h.1)
