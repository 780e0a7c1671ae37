-- What the components of a text send stands in bags.
use Rattle.std.proofs.Common.{◌≡◌, ℕ, zero, suc, Bool, true, false, cond, List, [], ◌∷◌, map, Result, Ok, Err, IfOk, refl}
use Rattle.dv_syntax.specs.Trees.{AtomicTree, FileTree, Statements}
use Rattle.dv_syntax.specs.declared.tree.RuleSort.TheVariants.{Output}
use Rattle.dv_bag.specs.Arrivals.{Arrivals, nothing_arrived}
use Rattle.dv_bag.specs.Bag.{Counts}
use Rattle.dv_bag.specs.BagLists.{AllAreBags, AreBags}
use Rattle.dv_bag.specs.Outcome.{◌>>=◌}
use Rattle.dv_bag.specs.declared.fault.Fault.{Fault}
use Rattle.dv_bag.specs.declared.state.Effect.{Effect}
use Rattle.dv_bag.specs.declared.state.State.{State}
use Rattle.dv_devs.specs.Behaviour.{Component, emission, is_imminent}
use Rattle.dv_devs.specs.Network.{components_at, emissions, emissions_at, sent_by}
use Rattle.dv_eval.specs.Meaning.{effect_of}
use Rattle.dv_eval.specs.Scope.{phase_name, rule_body, scope_of}
use Rattle.dv_tree.specs.Instances.{Instance, instances}
use Rattle.dv_plain.specs.Source.{behaviour_of, network_of, rule_effect}

-- what rules send stands in bags
abbrev pub RulesSendBags : Type 0
RulesSendBags =
    (m : AtomicTree) (body : Statements) (arrivals : Arrivals) (s : State) (e : Effect)
    → effect_of (scope_of m) body arrivals s ≡ Ok e → AreBags e.sent

module _ (rules : RulesSendBags) where
  sent_of : (r : Result Effect Fault) → ((e : Effect) → r ≡ Ok e → AreBags e.sent) → IfOk (r >>= λ e. Ok e.sent) AreBags
  sent_of (Ok e) bags = bags e refl
  sent_of (Err f) bags = tt

  output_sends : (m : AtomicTree) (s : State) → IfOk ((behaviour_of m).output s) AreBags
  output_sends m s =
      let body = rule_body Output (phase_name (scope_of m) s.phase) m.rules in
      sent_of (rule_effect m Output nothing_arrived s) (λ e is. rules m body nothing_arrived s e is)

  emitted : (imminent : Bool) (r : Result (List Counts) Fault) → IfOk r AreBags → IfOk (cond imminent r (Ok [])) AreBags
  emitted true r bags = bags
  emitted false r bags = λ port. tt

  unless_quiet : (quiet : Bool) (bags : List Counts) → AreBags bags → AreBags (cond quiet [] bags)
  unless_quiet true bags are = λ port. tt
  unless_quiet false bags are = are

  sent : (c : Component) (r : Result (List Counts) Fault) → IfOk r AreBags → AreBags (sent_by c r)
  sent c (Ok bags) are = unless_quiet c.quiet bags are
  sent c (Err f) are = λ port. tt

  all_sent : (is : List Instance) (now : ℕ) (cs : List Component)
      → AllAreBags (emissions (map (λ (i : Instance). behaviour_of i.model) is) now cs)
  all_sent [] now cs k port = tt
  all_sent (i ∷ is) now [] k port = tt
  all_sent (i ∷ is) now (c ∷ cs) zero port =
      let b = behaviour_of i.model in
      sent c (emission b now c) (emitted (is_imminent now c) (b.output c.state) (output_sends i.model c.state)) port
  all_sent (i ∷ is) now (c ∷ cs) (suc k) port = all_sent is now cs k port

  pub components_send_bags : (limit : ℕ) (f : FileTree) (inputs : ℕ → List Counts) (n : ℕ)
      → AllAreBags (emissions_at limit (network_of limit f) inputs n)
  components_send_bags limit f inputs n = all_sent (instances f) n (components_at limit (network_of limit f) inputs n)
