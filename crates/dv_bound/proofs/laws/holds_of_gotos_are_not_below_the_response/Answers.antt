use Rattle.std.proofs.Common.{◌≡◌, ℕ, List, [], ◌∷◌, true, Ok, Some}
use Rattle.std.specs.List.{AllByRecursion}
use Rattle.std.proofs.lemmas.List.Elements.{All-from_recursion}
use Rattle.dv_bag.specs.Numbers.{HoldsNumbers}
use Rattle.dv_bag.specs.declared.state.State.{State}
use Rattle.dv_eval.specs.Meaning.{hold_of}
use Rattle.dv_eval.specs.Scope.{hold_ticks, scope_of}
use Rattle.dv_eval.specs.declared.scope.Domain.{Domain}
use Rattle.law_accepted.specs.Fitting.{fits}
use Rattle.dv_bound.specs.Response.{IsNotBelow, external_gotos, phase_response, response_of}
use Rattle.dv_bound.proofs.NotBelow.{IsNoLater, hold_of_goto, no_later_than_gotos}
use Rattle.dv_bound.proofs.laws.holds_of_gotos_are_not_below_the_response.Goals as goal

all_weaker : {X : Type 0} {P Q : X → Type 0} → ((x : X) → P x → Q x) → (xs : List X) → AllByRecursion P xs → AllByRecursion Q xs
all_weaker step [] all = tt
all_weaker step (x ∷ xs) all = (step x all.0, all_weaker step xs all.1)

pub returns : goal.returns
returns c = λ m.
    let holds : (phase : ℕ) → IsNoLater (response_of m) (phase_response m phase) → (s : State) (ticks : ℕ) → fits m s ≡ true
    → HoldsNumbers s.variables → hold_of (scope_of m) (hold_ticks phase m.holds) s ≡ Ok (Some ticks)
    → IsNotBelow (response_of m) ticks =
    λ phase no_later s ticks fit numbers hold.
    hold_of_goto m phase no_later s (λ (name : ℕ) (d : Domain). c.accepted_names_are_known.ensures.values m s name d fit) numbers ticks hold
    in
    All-from_recursion _ (external_gotos m) (all_weaker holds (external_gotos m) (no_later_than_gotos m))
