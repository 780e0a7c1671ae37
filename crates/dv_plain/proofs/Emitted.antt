-- What is sent, by what the output functions give.
use Rattle.std.proofs.Common.{◌≡◌, ℕ, Bool, true, false, if◌then◌else◌, List, [], ◌∷◌, map}
use Rattle.std.proofs.Common.{None, Result, Ok, Err, inl, inr, refl, ap, sym, ◌∙◌}
use Rattle.std.proofs.lemmas.Bool.{cases_Bool}
use Rattle.dv_bag.specs.Bag.{Counts}
use Rattle.dv_devs.specs.Behaviour.{Behaviour, Component, emission, is_at}
use Rattle.dv_devs.specs.Network.{emissions, sent_by}
use Rattle.dv_bag.specs.declared.fault.Fault.{Fault}
use Rattle.dv_react.specs.declared.running.Running.{Running}
use Rattle.dv_react.specs.Outcomes.{sent_of}
use Rattle.dv_plain.specs.Outputs.{outputs}
use Rattle.dv_react.specs.Components.{is_quiet, component_of}
use Rattle.dv_plain.proofs.Steps.{quiet-none}

sent_by-nothing : (c : Component) → sent_by c (Ok []) ≡ []
sent_by-nothing c = elim c.quiet as (λ q. sent_by (record c { quiet = q }) (Ok []) ≡ []) [ true ↦ refl | false ↦ refl ]

sent-loud : (c : Component) (e : Result (List Counts) Fault) → c.quiet ≡ false → sent_by c e ≡ sent_of e
sent-loud c (Ok bags) loud = ap (λ (q : Bool). if q then [] else bags) loud
sent-loud c (Err f) loud = refl

sent-quiet : (b : Behaviour) (now : ℕ) (c : Component) → c.next ≡ None → sent_by c (emission b now c) ≡ sent_of (emission b now c)
sent-quiet b now c never =
    let nothing : emission b now c ≡ Ok [] = ap (λ n. if is_at now n then b.output c.state else Ok []) never in
    ap (sent_by c) nothing ∙ sent_by-nothing c ∙ sym (ap sent_of nothing)

sent_by-output : (limit : ℕ) (b : Behaviour) (now : ℕ) (r : Running) →
    sent_by (component_of limit r) (emission b now (component_of limit r)) ≡ sent_of (emission b now (component_of limit r))
sent_by-output limit b now r =
    elim (cases_Bool (is_quiet r.wait)) [
      | inl quiet ↦ sent-quiet b now (component_of limit r) (quiet-none limit r.wait quiet)
      | inr loud ↦ sent-loud (component_of limit r) (emission b now (component_of limit r)) loud
    ]

-- what the components send is what their output functions give
pub emissions-outputs : (limit : ℕ) (bs : List Behaviour) (now : ℕ) (rs : List Running) →
    emissions bs now (map (component_of limit) rs) ≡ map sent_of (outputs bs now (map (component_of limit) rs))
emissions-outputs limit [] now rs = refl
emissions-outputs limit (b ∷ bs) now [] = refl
emissions-outputs limit (b ∷ bs) now (r ∷ rs) =
    ap (λ s. s ∷ emissions bs now (map (component_of limit) rs)) (sent_by-output limit b now r)
    ∙ ap (λ rest. sent_of (emission b now (component_of limit r)) ∷ rest) (emissions-outputs limit bs now rs)
