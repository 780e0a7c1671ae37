-- The components of a text by rules and by programs are pairs.
use Rattle.std.proofs.Common.{◌≡◌, ℕ, ◌+◌, List, [], ◌∷◌, Option, Result, Ok, Err, refl, ap, ◌∙◌}
use Rattle.std.specs.List.{AllByRecursion}
use Rattle.dv_syntax.specs.Trees.{AtomicTree}
use Rattle.dv_bag.specs.Outcome.{◌>>=◌}
use Rattle.dv_bag.specs.declared.fault.Fault.{Fault}
use Rattle.dv_bag.specs.declared.state.State.{State}
use Rattle.dv_devs.specs.Behaviour.{end_of_hold}
use Rattle.dv_eval.specs.Scope.{start_state}
use Rattle.law_accepted.specs.Fitting.{fits}
use Rattle.dv_tree.specs.Instances.{Instance}
use Rattle.dv_plain.specs.Source.{first_component}
use Rattle.law_compiled.proofs.Alike.{IsFaithful}
use Rattle.law_sound.specs.Members.{member_of, members_from}
use Rattle.law_rules.specs.Jobs.{member_by_rules, members_by_rules}
use Rattle.law_rules.proofs.Pairs.{AllPairs, IsPair}

state_first : (s : State) (r : Result (Option ℕ) Fault) → (first_component s r).state ≡ s
state_first s (Ok next) = refl
state_first s (Err f) = refl

pair_of : (limit k : ℕ) (m : AtomicTree) → IsFaithful m → IsPair (member_by_rules limit k m) (member_of limit k m)
pair_of limit k m faithful = record {
  number = refl;
  ports = refl;
  start = ap (λ (hold : Result (Option ℕ) Fault). first_component (start_state m) (hold >>= end_of_hold limit 0))
      (faithful.agrees.hold (start_state m) faithful.start);
  fits = fits m;
  keeps = faithful.keeps;
  agrees = faithful.agrees;
  begins = ap (fits m) (state_first (start_state m) _) ∙ faithful.start;
}

pub pairs_from : (limit k : ℕ) (is : List Instance) → AllByRecursion (λ (i : Instance). IsFaithful i.model) is
    → AllPairs (members_by_rules limit k is) (members_from limit k is)
pairs_from limit k [] all = tt
pairs_from limit k (i ∷ is) all = (pair_of limit k i.model all.0, pairs_from limit (k + 1) is all.1)
