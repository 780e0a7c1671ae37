-- To pass a pending edge leaves the search valid.
use Rattle.std.proofs.Common.{◌≡◌, ℕ, ◌-◌, ◌<◌, ◌≤◌, ◌⊎◌, inl, inr, List, subst, arith}
use Rattle.std.proofs.lemmas.Bool.{cases_eq}
use Rattle.dv_cycles.specs.Search.{HasSegment, IsSettled, IsHeld, IsPending, IsSegment, IsValid, State, last_segment, last_target}
use Rattle.dv_cycles.proofs.Marks.{held_weaker}
use Rattle.dv_cycles.proofs.Order.{first_edge_le, first_node_le}

-- the last pending edge leads to a node that every segment holds
abbrev pub passed : State → State
passed s = record s { edges = s.edges - 1 }

module _ (graph : List (List ℕ)) (s : State) (h : IsValid graph s) (begun : 0 < s.segments)
    (edge : (last_segment s).first_edge < s.edges) (held : IsHeld (last_segment s).first_node (s.mark (last_target s))) where
  -- an edge that was pending is held now, or pending still
  pass_closed : (i v : ℕ) → i < s.segments
      → IsHeld (s.segment i).first_node (s.mark v) ⊎ IsPending s.edges s.target (s.segment i).first_edge v
      → IsHeld (s.segment i).first_node (s.mark v) ⊎ IsPending (s.edges - 1) s.target (s.segment i).first_edge v
  pass_closed i v l (inl a) = inl a
  pass_closed i v l (inr a) =
      elim (cases_eq a.index (s.edges - 1)) [
        | inl e ↦ let first : (s.segment i).first_node ≤ (last_segment s).first_node =
            first_node_le graph s h i (s.segments - 1) (omega arith) (omega arith) in
            let is : last_target s ≡ v = subst (λ k. s.target k ≡ v) e a.there in
            inl (subst (λ w. IsHeld (s.segment i).first_node (s.mark w)) is
            (held_weaker (s.mark (last_target s)) (s.segment i).first_node (last_segment s).first_node first held))
        | inr ne ↦ let w : a.index < s.edges = a.within in
            inr (record { index = a.index; after = a.after; within = omega arith; there = a.there })
      ]

  -- each segment keeps what is known of it
  pass_segment : (i : ℕ) → i < s.segments → IsSegment graph (passed s) i
  pass_segment i l =
      let o : IsSegment graph s i = h.segment i l in
      let first : (s.segment i).first_edge ≤ (last_segment s).first_edge =
      first_edge_le graph s h i (s.segments - 1) (omega arith) (omega arith) in
      record {
        on_path = o.on_path;
        in_pending = omega arith;
        leads_on = o.leads_on;
        leads_out = λ k a b. o.leads_out k a (omega arith);
        closed = λ p v a b c. pass_closed i v l (o.closed p v a b c);
      }

  -- the search is valid with one pending edge less
  pub pass_valid : IsValid graph (passed s)
  pass_valid = record {
    path = h.path;
    pending = λ k l. h.pending k (omega arith);
    segment = pass_segment;
    before = h.before;
    covered = λ p l. let o : HasSegment graph s p = h.covered p l in
        record { index = o.index; is_segment = o.is_segment; begun = o.begun; not_ended = o.not_ended; leads_back = o.leads_back };
    done = λ u n e. let o : IsSettled graph s u n = h.done u n e in record { numbered = o.numbered; leads_down = o.leads_down };
    together = h.together;
  }
