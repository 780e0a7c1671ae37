-- States that fit: how a behaviour keeps them, and where two behaviours agree.
use Rattle.std.specs.Prelude.{◌≡◌, ℕ, ◌+◌, ◌<◌, Bool, IfOk, IfSome, IsTrue, List, [], ◌∷◌}
use Rattle.std.specs.List.{list_all}
use Rattle.dv_bag.specs.Bag.{Counts}
use Rattle.dv_devs.specs.Behaviour.{Behaviour, Component, Change, are_few}
use Rattle.dv_devs.specs.Network.{Network, emissions_at}
use Rattle.dv_devs.specs.Parts.{sent_among}
use Rattle.dv_bag.specs.declared.state.State.{State}

-- from a state that fits, if only what is allowed arrives and floods no port, a behaviour leads to a state that fits
pub record Keeps (fits : State → Bool) (comes : List Counts → Bool) (b : Behaviour) : Type 0 where
  pub internal : (s : State) → IsTrue (fits s) → IfOk (b.internal s) (λ (m : Change). IsTrue (fits m.state))
  pub external : (elapsed : ℕ) (bags : List Counts) (s : State) → IsTrue (fits s) → IsTrue (comes bags) → IsTrue (are_few bags)
      → IfOk (b.external elapsed bags s) (λ (m : Change). IsTrue (fits m.state))
  pub confluent : (bags : List Counts) (s : State) → IsTrue (fits s) → IsTrue (comes bags) → IsTrue (are_few bags)
      → IfSome (b.confluent bags s) (λ r. IfOk r (λ (m : Change). IsTrue (fits m.state)))

-- two behaviours agree in states that fit, if only what is allowed arrives and floods no port
pub record Agrees (fits : State → Bool) (comes : List Counts → Bool) (a b : Behaviour) : Type 0 where
  pub output : (s : State) → IsTrue (fits s) → a.output s ≡ b.output s
  pub internal : (s : State) → IsTrue (fits s) → a.internal s ≡ b.internal s
  pub external : (elapsed : ℕ) (bags : List Counts) (s : State) → IsTrue (fits s) → IsTrue (comes bags) → IsTrue (are_few bags)
      → a.external elapsed bags s ≡ b.external elapsed bags s
  pub confluent : (bags : List Counts) (s : State) → IsTrue (fits s) → IsTrue (comes bags) → IsTrue (are_few bags)
      → a.confluent bags s ≡ b.confluent bags s
  pub hold : (s : State) → IsTrue (fits s) → a.hold s ≡ b.hold s

-- the states of all components fit, by their indices from k on
abbrev pub AllFit : (ℕ → State → Bool) → ℕ → List Component → Type 0
AllFit fits k [] = Unit {0}
AllFit fits k (c ∷ cs) = IsTrue (fits k c.state) × AllFit fits (k + 1) cs

-- all behaviours lead from states that fit to states that fit
abbrev pub AllKeep : (ℕ → State → Bool) → (List Counts → Bool) → ℕ → List Behaviour → Type 0
AllKeep fits comes k [] = Unit {0}
AllKeep fits comes k (b ∷ bs) = Keeps (fits k) comes b × AllKeep fits comes (k + 1) bs

-- two lists of behaviours, of which each agrees with the one at its index
abbrev pub AllAgree : (ℕ → State → Bool) → (List Counts → Bool) → ℕ → List Behaviour → List Behaviour → Type 0
AllAgree fits comes k [] [] = Unit {0}
AllAgree fits comes k [] (b ∷ bs) = ⊥
AllAgree fits comes k (a ∷ rest) [] = ⊥
AllAgree fits comes k (a ∷ rest) (b ∷ bs) = Agrees (fits k) comes a b × AllAgree fits comes (k + 1) rest bs

-- only what is allowed arrives before a rank
abbrev pub OnlyArrives : {I : Type 0} → (List Counts → Bool) → ℕ → Network I → (ℕ → I) → ℕ → Type 0
OnlyArrives comes limit net inputs n = (j : ℕ) → j < n
    → IsTrue (list_all comes (net.arrives (emissions_at limit net inputs j) (inputs j)))

-- two networks of behaviours that agree, with the same numbers, in which what the first one sends is routed the same way
pub record AreAlike {I : Type 0} (fits : ℕ → State → Bool) (comes : List Counts → Bool) (limit : ℕ) (net also : Network I)
    (inputs : ℕ → I) : Type 0 where
  pub keep : AllKeep fits comes 0 net.behaviours
  pub agree : AllAgree fits comes 0 net.behaviours also.behaviours
  pub numbers : net.numbers ≡ also.numbers
  pub start : net.start ≡ also.start
  pub fit : AllFit fits 0 net.start
  pub arrives : (n : ℕ)
      → net.arrives (emissions_at limit net inputs n) (inputs n) ≡ also.arrives (emissions_at limit net inputs n) (inputs n)
  pub leaves : (n : ℕ) → net.leaves (emissions_at limit net inputs n) ≡ also.leaves (emissions_at limit net inputs n)

-- if the components of a set send the same, the same leaves
abbrev pub LeavesAlikeOf : {I : Type 0} → (ℕ → Bool) → (net also : Network I) → List (List Counts) → Type 0
LeavesAlikeOf who net also sent = net.leaves (sent_among who net.numbers sent) ≡ also.leaves (sent_among who net.numbers sent)
