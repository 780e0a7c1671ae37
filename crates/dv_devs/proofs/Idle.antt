-- Instants at which nothing happens.
use Rattle.std.proofs.Common.{◌≡◌, ◌⊎◌, inl, inr, ℕ, ◌+◌, Bool, true, false, not, ◌&&◌, ◌||◌, cond, nat_eq, List, [], ◌∷◌}
use Rattle.std.proofs.Common.{length, map, None, Result, Ok, Err, IsTrue, refl, sym, ap, ◌∙◌, arith}
use Rattle.std.proofs.lemmas.Bool.{and_parts}
use Rattle.dv_bag.specs.Bag.{Counts, size}
use Rattle.dv_devs.specs.Behaviour.{Behaviour, Component, Reaction, reaction, emission, all_empty, is_imminent}
use Rattle.dv_devs.specs.Network.{Network, sent_by, emissions, first_bags, other_bags, reactions, components_after, entries_by}
use Rattle.dv_devs.specs.Network.{outer_from, part_of_instant}
use Rattle.dv_devs.specs.Idle.{IsIdle, LeavesOnlyWhatIsSent, no_values, none_imminent, nothing_sent}
use Rattle.dv_bag.specs.Part.{PartOf, nothing}
use Rattle.dv_bag.specs.declared.fault.Fault.{Fault}

-- a quiet component, or one that is not imminent, sends nothing
silent_when_quiet : (c : Component) (r : Result (List Counts) Fault) → IsTrue c.quiet → sent_by c r ≡ []
silent_when_quiet c (Ok bags) h = rw h refl
silent_when_quiet c (Err f) h = refl

pub cond_same : {X : Type 0} (b : Bool) (x : X) → cond b x x ≡ x
cond_same true x = refl
cond_same false x = refl

quiet_or_not_imminent : (q d : Bool) → IsTrue (q || not d) → (q ≡ true) ⊎ (d ≡ false)
quiet_or_not_imminent true d h = inl refl
quiet_or_not_imminent false true h = absurd (cc)
quiet_or_not_imminent false false h = inr refl

silent_when_not_imminent : (b : Behaviour) (now : ℕ) (c : Component) → is_imminent now c ≡ false → sent_by c (emission b now c) ≡ []
silent_when_not_imminent b now c h = rw h (cond_same c.quiet [])

sends_nothing : (b : Behaviour) (now : ℕ) (c : Component) → IsTrue (c.quiet || not (is_imminent now c)) → sent_by c (emission b now c) ≡ []
sends_nothing b now c h =
    elim (quiet_or_not_imminent c.quiet (is_imminent now c) h) [
      | inl q ↦ silent_when_quiet c
          (emission b now c) q
      | inr d ↦ silent_when_not_imminent b now c d
    ]

pub none_send : (bs : List Behaviour) (now : ℕ) (cs : List Component) → length bs ≡ length cs → IsTrue (none_imminent now cs) →
    emissions bs now cs ≡ map (λ (b : Behaviour). []) bs
none_send [] now cs e h = refl
none_send (b ∷ bs) now [] e h = absurd (omega arith)
none_send (b ∷ bs) now (c ∷ cs) e h =
    let parts = and_parts (c.quiet || not (is_imminent now c)) (none_imminent now cs) h in
    ap (λ (bags : List Counts). bags ∷ emissions bs now cs) (sends_nothing b now c parts.0)
    ∙ ap (λ (rest : List (List Counts)). [] ∷ rest) (none_send bs now cs (omega arith) parts.1)

-- a component that is not imminent and receives nothing stays as it is
stays : (q d e : Bool) → IsTrue (q || not d) → e ≡ true → (not q && (d || not e)) ≡ false
stays true d e h k = refl
stays false true e h k = absurd (cc)
stays false false true h k = refl
stays false false false h k = sym k

nothing_happens : (limit : ℕ) (b : Behaviour) (now : ℕ) (c : Component) (bags : List Counts) →
    IsTrue (c.quiet || not (is_imminent now c)) → IsTrue (all_empty bags) →
    reaction limit b now c bags ≡ record { event = None; component = c }
nothing_happens limit b now c bags h k = rw (stays c.quiet (is_imminent now c) (all_empty bags) h k) refl

first_empty : (received : List (List Counts)) → IsTrue (no_values received) → IsTrue (all_empty (first_bags received))
first_empty [] h = refl
first_empty (bags ∷ rest) h = let parts = and_parts (all_empty bags) (no_values rest) h in parts.0

others_empty : (received : List (List Counts)) → IsTrue (no_values received) → IsTrue (no_values (other_bags received))
others_empty [] h = refl
others_empty (bags ∷ rest) h = let parts = and_parts (all_empty bags) (no_values rest) h in parts.1

all_stay : (limit : ℕ) (bs : List Behaviour) (now : ℕ) (cs : List Component) (received : List (List Counts)) → length bs ≡ length cs →
    IsTrue (none_imminent now cs) → IsTrue (no_values received) →
    map (λ (r : Reaction). r.component) (reactions limit bs now cs received) ≡ cs
all_stay limit [] now [] received e h k = refl
all_stay limit [] now (c ∷ cs) received e h k = absurd (omega arith)
all_stay limit (b ∷ bs) now [] received e h k = absurd (omega arith)
all_stay limit (b ∷ bs) now (c ∷ cs) received e h k =
    let parts = and_parts (c.quiet || not (is_imminent now c)) (none_imminent now cs) h in
    let here = nothing_happens limit b now c (first_bags received) parts.0 (first_empty received k) in
    let rest = all_stay limit bs now cs (other_bags received) (omega arith) parts.1 (others_empty received k) in
    rw (here, rest) refl

no_entries : (limit : ℕ) (ks : List ℕ) (bs : List Behaviour) (now : ℕ) (cs : List Component) (received : List (List Counts)) →
    IsTrue (none_imminent now cs) → IsTrue (no_values received) → entries_by limit now ks (reactions limit bs now cs received) ≡ []
no_entries limit [] bs now cs received h e = refl
no_entries limit (k ∷ ks) [] now cs received h e = refl
no_entries limit (k ∷ ks) (b ∷ bs) now [] received h e = refl
no_entries limit (k ∷ ks) (b ∷ bs) now (c ∷ cs) received h e =
    let parts = and_parts (c.quiet || not (is_imminent now c)) (none_imminent now cs) h in
    let here = nothing_happens limit b now c (first_bags received) parts.0 (first_empty received e) in
    rw here (no_entries limit ks bs now cs (other_bags received) parts.1 (others_empty received e))

no_lines : (limit now port : ℕ) (bags : List Counts) → IsTrue (all_empty bags) → outer_from limit now port bags ≡ []
no_lines limit now port [] h = refl
no_lines limit now port (b ∷ bs) h =
    let parts = and_parts (nat_eq (size b) 0) (all_empty bs) h in
    rw parts.0 (no_lines limit now (port + 1) bs parts.1)

module _ {I : Type 0} (limit : ℕ) (net : Network I) (now : ℕ) (input : I) (cs : List Component) (idle : IsIdle net now input cs)
    (matched : length net.behaviours ≡ length cs) where
  none_sent : emissions net.behaviours now cs ≡ nothing_sent net
  none_sent = none_send net.behaviours now cs matched idle.0

  none_received : IsTrue (no_values (net.arrives (emissions net.behaviours now cs) input))
  none_received = ap (λ (sent : List (List Counts)). no_values (net.arrives sent input)) none_sent ∙ idle.1

  pub idle_components : components_after limit net now input cs ≡ cs
  idle_components = all_stay limit net.behaviours now cs (net.arrives (emissions net.behaviours now cs) input) matched idle.0 none_received

  pub idle_entries : (part_of_instant limit net now input cs).entries ≡ []
  idle_entries =
      no_entries limit net.numbers net.behaviours now cs (net.arrives (emissions net.behaviours now cs) input) idle.0 none_received

  pub idle_outside : LeavesOnlyWhatIsSent net → (part_of_instant limit net now input cs).outer ≡ []
  idle_outside leaves =
      no_lines limit now 0 (net.leaves (emissions net.behaviours now cs))
      (ap (λ (sent : List (List Counts)). all_empty (net.leaves sent)) none_sent ∙ leaves)

  pub idle_part : LeavesOnlyWhatIsSent net → part_of_instant limit net now input cs ≡ nothing
  idle_part leaves =
      ap (λ es. let p : PartOf = record { entries = es; outer = (part_of_instant limit net now input cs).outer } in p) idle_entries
      ∙ ap (λ os. let p : PartOf = record { entries = []; outer = os } in p) (idle_outside leaves)
