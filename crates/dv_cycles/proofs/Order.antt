-- Segments are in the order of their beginnings.
use Rattle.std.proofs.Common.{◌≡◌, ℕ, ◌-◌, ◌<◌, ◌≤◌, inl, inr, List, subst, arith}
use Rattle.std.proofs.lemmas.Bool.{cases_lt}
use Rattle.dv_cycles.specs.Search.{IsBefore, IsValid, LeadTo, State, last_segment, last_target}

module _ (graph : List (List ℕ)) (s : State) (h : IsValid graph s) where
  -- a later segment begins no earlier on the path
  pub first_node_le : (i j : ℕ) → i ≤ j → j < s.segments → (s.segment i).first_node ≤ (s.segment j).first_node
  first_node_le i j l k =
      elim (cases_lt i j) [
        | inl less ↦ let b : IsBefore (s.segment i) (s.segment j) = h.before i j less k in omega (arith, b.by_node)
        | inr more ↦ let e : i ≡ j = omega arith in
            let r : (s.segment i).first_node ≤ (s.segment i).first_node = omega arith in
            subst (λ x. (s.segment i).first_node ≤ (s.segment x).first_node) e r
      ]

  -- a later segment begins no earlier in the pending edges
  pub first_edge_le : (i j : ℕ) → i ≤ j → j < s.segments → (s.segment i).first_edge ≤ (s.segment j).first_edge
  first_edge_le i j l k =
      elim (cases_lt i j) [
        | inl less ↦ let b : IsBefore (s.segment i) (s.segment j) = h.before i j less k in b.by_edge
        | inr more ↦ let e : i ≡ j = omega arith in
            let r : (s.segment i).first_edge ≤ (s.segment i).first_edge = omega arith in
            subst (λ x. (s.segment i).first_edge ≤ (s.segment x).first_edge) e r
      ]

  -- each segment leads to where the last pending edge does
  pub edge_led_to : 0 < s.segments → (last_segment s).first_edge < s.edges → LeadTo graph s (last_target s)
  edge_led_to begun edge i l =
      let le : (s.segment i).first_edge ≤ (last_segment s).first_edge = first_edge_le i (s.segments - 1) (omega arith) (omega arith) in
      (h.segment i l).leads_out (s.edges - 1) (omega arith) (omega arith)
