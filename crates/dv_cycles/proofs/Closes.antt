-- To join the segments of a cycle leaves the search valid.
use Rattle.std.proofs.Common.{◌≡◌, ℕ, ◌+◌, ◌-◌, ◌<◌, ◌≤◌, inl, inr, List, subst, arith}
use Rattle.std.proofs.lemmas.Bool.{cases_lt}
use Rattle.dv_cycles.specs.Search.{HasSegment, IsSettled, IsSegment, IsValid, Reaches, State, beginning, last_segment}
use Rattle.dv_cycles.proofs.Ways.{reaches_on}
use Rattle.dv_cycles.proofs.Order.{first_node_le}

-- the segments from one on are joined, up to the last one, whose beginning leads to a position of that one
abbrev pub closed_to : State → ℕ → State
closed_to s k = record s { segments = k }

module _ (graph : List (List ℕ)) (s : State) (h : IsValid graph s) (begun : 0 < s.segments)
    (k position : ℕ) (fewer : k ≤ s.segments) (on : position < s.nodes)
    (joined : (i : ℕ) → k ≤ i → i < s.segments → position < (s.segment i).first_node)
    (last : 0 < k → (s.segment (k - 1)).first_node ≤ position)
    (back : Reaches graph (beginning s (s.segments - 1)) (s.node position)) where
  -- the index of the segment that has the position
  close_index : (index : ℕ) → index < s.segments → (s.segment index).first_node ≤ position
      → ((i : ℕ) → index < i → i < s.segments → position < (s.segment i).first_node) → index + 1 ≡ k
  close_index index l b n =
      elim (cases_lt index k) [
        | inl less ↦ elim (cases_lt (index + 1) k) [
          | inl before ↦ let a : position < (s.segment (k - 1)).first_node = n (k - 1) (omega arith) (omega arith) in
              let c : (s.segment (k - 1)).first_node ≤ position = last (omega arith) in absurd (omega arith)
          | inr after ↦ omega arith
        ]
        | inr more ↦ let a : position < (s.segment index).first_node = joined index more l in absurd (omega arith)
      ]

  -- the segment of the position
  close_at : HasSegment graph s position
  close_at = h.covered position on

  -- it is the last one that is left
  close_is : close_at.index + 1 ≡ k
  unfolding close_at
  close_is =
      let o : HasSegment graph s position = h.covered position on in
      close_index o.index o.is_segment o.begun o.not_ended

  -- some segment is left
  pub close_begun : 0 < k
  close_begun = let e : close_at.index + 1 ≡ k = close_is in omega arith

  -- the last one that is left begins no later than the position
  pub close_last : (s.segment (k - 1)).first_node ≤ position
  close_last = last close_begun

  -- every position from the joined segment on leads back to where it begins
  close_back : (p : ℕ) → (s.segment (k - 1)).first_node ≤ p → p < s.nodes → Reaches graph (s.node p) (beginning s (k - 1))
  close_back p a l =
      let e : close_at.index + 1 ≡ k = close_is in
      let f : close_at.index ≡ k - 1 = omega arith in
      let o : HasSegment graph s p = h.covered p l in
      let is : o.index < s.segments = o.is_segment in
      let end : IsSegment graph s (s.segments - 1) = h.segment (s.segments - 1) (omega arith) in
      let here : Reaches graph (s.node position) (beginning s (k - 1)) =
      subst (λ x. Reaches graph (s.node position) (beginning s x)) f close_at.leads_back in
      let on_to : Reaches graph (beginning s o.index) (beginning s (s.segments - 1)) =
      (h.segment o.index is).leads_on (last_segment s).first_node
      (first_node_le graph s h o.index (s.segments - 1) (omega arith) (omega arith)) end.on_path in
      reaches_on o.leads_back (reaches_on on_to (reaches_on back here))

  -- each position has one of the segments that are left
  close_covered : (p : ℕ) → p < s.nodes → HasSegment graph (closed_to s k) p
  close_covered p l =
      let b : 0 < k = close_begun in
      elim (cases_lt p (s.segment (k - 1)).first_node) [
        | inl less ↦ let o : HasSegment graph s p = h.covered p l in
            let begins : (s.segment o.index).first_node ≤ p = o.begun in
            let is : o.index < k = elim (cases_lt o.index k) [
              | inl y ↦ y
              | inr n ↦ let le : (s.segment (k - 1)).first_node ≤ (s.segment o.index).first_node =
                  first_node_le graph s h (k - 1) o.index (omega arith) o.is_segment in absurd (omega arith)
            ] in
            record {
              index = o.index;
              is_segment = is;
              begun = begins;
              not_ended = λ i a c. o.not_ended i a (omega arith);
              leads_back = o.leads_back;
            }
        | inr more ↦ record {
          index = k - 1;
          is_segment = omega arith;
          begun = more;
          not_ended = λ i a c. absurd (omega arith);
          leads_back = close_back p more l;
        }
      ]

  -- each segment that is left keeps what is known of it
  close_segment : (i : ℕ) → i < k → IsSegment graph (closed_to s k) i
  close_segment i l =
      let o : IsSegment graph s i = h.segment i (omega arith) in
      record { on_path = o.on_path; in_pending = o.in_pending; leads_on = o.leads_on; leads_out = o.leads_out; closed = o.closed }

  -- the search is valid with the segments that are left
  pub close_valid : IsValid graph (closed_to s k)
  close_valid = record {
    path = h.path;
    pending = h.pending;
    segment = close_segment;
    before = λ i j a l. h.before i j a (omega arith);
    covered = close_covered;
    done = λ u n e. let o : IsSettled graph s u n = h.done u n e in record { numbered = o.numbered; leads_down = o.leads_down };
    together = h.together;
  }
