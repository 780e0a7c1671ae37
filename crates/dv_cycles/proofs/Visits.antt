-- A visit of a new node leaves the search valid.
use Rattle.std.proofs.Common.{◌≡◌, ℕ, ◌+◌, ◌<◌, ◌≤◌, ◌⊎◌, inl, inr, List, length, true, refl, sym, subst, ap, arith, ◌∙◌}
use Rattle.std.proofs.lemmas.Bool.{cases_eq, cases_lt}
use Rattle.dv_cycles.specs.Ways.{IsGraph, leads}
use Rattle.dv_cycles.specs.Search.{HasSegment, IsBefore, IsSettled, IsDoneBy, IsHeld, IsPath, IsPending, IsPositioned, IsSegment}
use Rattle.dv_cycles.specs.Search.{IsValid, LeadTo, State, beginning}
use Rattle.dv_cycles.specs.declared.search.Mark.{Mark}
use Rattle.dv_cycles.specs.declared.search.Mark.TheVariants.{New, OnPath, Done}
use Rattle.dv_cycles.proofs.Ways.{edge_within, reaches_edge, reaches_here, reaches_on, reaches_same}

-- a node more on the path, in a segment of its own, and its edges
abbrev pub visited : State → (ℕ → Mark) → ℕ → State
visited s mark edges = record s { mark = mark; nodes = s.nodes + 1; edges = edges; segments = s.segments + 1 }

-- what a visit of a node puts after a state
pub record IsVisit (graph : List (List ℕ)) (s : State) (n : ℕ) (mark : ℕ → Mark) (edges : ℕ) : Type 0 where
  pub new : s.mark n ≡ New
  pub within : n < length graph
  pub led_to : LeadTo graph s n
  pub marked : mark n ≡ OnPath s.nodes
  pub others : (v : ℕ) → (v ≡ n → ⊥) → mark v ≡ s.mark v
  pub node : s.node s.nodes ≡ n
  pub first_node : (s.segment s.segments).first_node ≡ s.nodes
  pub first_edge : (s.segment s.segments).first_edge ≡ s.edges
  pub more : s.edges ≤ edges
  pub targets : (k : ℕ) → s.edges ≤ k → k < edges → leads graph n (s.target k) ≡ true
  pub all_targets : (v : ℕ) → leads graph n v ≡ true → IsPending edges s.target s.edges v

module _ (graph : List (List ℕ)) (g : IsGraph graph) (s : State) (h : IsValid graph s) (n : ℕ) (mark : ℕ → Mark) (edges : ℕ)
    (visit : IsVisit graph s n mark edges) where
  -- the mark of a node that was not new stays
  kept : (v : ℕ) (m : Mark) → (m ≡ New → ⊥) → s.mark v ≡ m → mark v ≡ m
  kept v m other e = visit.others v (λ is. other (sym e ∙ ap s.mark is ∙ visit.new)) ∙ e

  -- a mark other than that of the visited node was there before
  was : (v : ℕ) (m : Mark) → (m ≡ OnPath s.nodes → ⊥) → mark v ≡ m → s.mark v ≡ m
  was v m other e = sym (visit.others v (λ is. other (sym e ∙ ap mark is ∙ visit.marked))) ∙ e

  -- what was held still is
  held_kept : (first v : ℕ) → IsHeld first (s.mark v) → IsHeld first (mark v)
  held_kept first v a =
      elim (cases_eq v n) [
        | inl e ↦ let none : IsHeld first New = subst (IsHeld first) (ap s.mark e ∙ visit.new) a in absurd none
        | inr ne ↦ subst (IsHeld first) (sym (visit.others v ne)) a
      ]

  -- what was done still is
  done_by_kept : (number v : ℕ) → IsDoneBy number (s.mark v) → IsDoneBy number (mark v)
  done_by_kept number v a =
      elim (cases_eq v n) [
        | inl e ↦ let none : IsDoneBy number New = subst (IsDoneBy number) (ap s.mark e ∙ visit.new) a in absurd none
        | inr ne ↦ subst (IsDoneBy number) (sym (visit.others v ne)) a
      ]

  -- the marks say which nodes are on the path now
  visit_path : IsPath mark (s.nodes + 1) s.node
  visit_path = record {
    positioned = λ v position e. elim (cases_eq v n) [
      | inl is ↦ let f : OnPath s.nodes ≡ OnPath position = sym visit.marked ∙ ap mark (sym is) ∙ e in
          let at : s.nodes ≡ position = cc in
          record { on_path = omega arith; there = ap s.node (sym at) ∙ visit.node ∙ sym is }
      | inr ne ↦ let o : IsPositioned s.nodes s.node v position = h.path.positioned v position (sym (visit.others v ne) ∙ e) in
          let l : position < s.nodes = o.on_path in
          record { on_path = omega arith; there = o.there }
    ];
    on_path = λ p l. elim (cases_lt p s.nodes) [
      | inl less ↦ kept (s.node p) (OnPath p) (λ e. cc) (h.path.on_path p less)
      | inr more ↦ let at : p ≡ s.nodes = omega arith in ap mark (ap s.node at ∙ visit.node) ∙ visit.marked ∙ ap OnPath (sym at)
    ];
  }

  -- the pending edges lead to nodes of the graph
  visit_pending : (k : ℕ) → k < edges → s.target k < length graph
  visit_pending k l =
      elim (cases_lt k s.edges) [
        | inl less ↦ h.pending k less
        | inr more ↦ edge_within graph n (s.target k) g (visit.targets k more l)
      ]

  -- what was pending still is
  pending_more : (first v : ℕ) → IsPending s.edges s.target first v → IsPending edges s.target first v
  pending_more first v a =
      let l : a.index < s.edges = a.within in let m : s.edges ≤ edges = visit.more in
      record { index = a.index; after = a.after; within = omega arith; there = a.there }

  -- what is pending from an index on is so from an earlier one on
  pending_from : (first v : ℕ) → first ≤ s.edges → IsPending edges s.target s.edges v → IsPending edges s.target first v
  pending_from first v l a =
      let m : s.edges ≤ a.index = a.after in record { index = a.index; after = omega arith; within = a.within; there = a.there }

  -- the new node at the end of the path
  at_end : (p : ℕ) → s.nodes ≤ p → p < s.nodes + 1 → s.node p ≡ n
  at_end p a l = let at : p ≡ s.nodes = omega arith in ap s.node at ∙ visit.node

  -- an edge of a node of a path is held or pending
  visit_old_closed : (first edge v : ℕ) → IsHeld first (s.mark v) ⊎ IsPending s.edges s.target edge v
      → IsHeld first (mark v) ⊎ IsPending edges s.target edge v
  visit_old_closed first edge v (inl a) = inl (held_kept first v a)
  visit_old_closed first edge v (inr a) = inr (pending_more edge v a)

  -- the edges of the visited node are pending
  visit_new_closed : (p v : ℕ) → s.nodes ≤ p → p < s.nodes + 1 → leads graph (s.node p) v ≡ true → IsPending edges s.target s.edges v
  visit_new_closed p v a l e = visit.all_targets v (subst (λ w. leads graph w v ≡ true) (at_end p a l) e)

  -- the segments before keep what is known of them
  visit_old_segment : (i : ℕ) → i < s.segments → IsSegment graph (visited s mark edges) i
  visit_old_segment i l =
      let o : IsSegment graph s i = h.segment i l in
      let on : (s.segment i).first_node < s.nodes = o.on_path in
      let first : (s.segment i).first_edge ≤ s.edges = o.in_pending in
      let m : s.edges ≤ edges = visit.more in
      record {
        on_path = omega arith;
        in_pending = omega arith;
        leads_on = λ p a b. elim (cases_lt p s.nodes) [
          | inl less ↦ o.leads_on p a less
          | inr more ↦ reaches_same refl (sym (at_end p more b)) (visit.led_to i l)
        ];
        leads_out = λ k a b. elim (cases_lt k s.edges) [
          | inl less ↦ o.leads_out k a less
          | inr more ↦ reaches_on (visit.led_to i l) (reaches_edge g (visit.targets k more b))
        ];
        closed = λ p v a b e. elim (cases_lt p s.nodes) [
          | inl less ↦ visit_old_closed (s.segment i).first_node (s.segment i).first_edge v (o.closed p v a less e)
          | inr more ↦ inr (pending_from (s.segment i).first_edge v first (visit_new_closed p v more b e))
        ];
      }

  -- the new segment begins with the visited node
  begins : beginning s s.segments ≡ n
  begins = ap s.node visit.first_node ∙ visit.node

  -- what is known of the new segment
  visit_new_segment : IsSegment graph (visited s mark edges) s.segments
  visit_new_segment =
      let first : (s.segment s.segments).first_node ≡ s.nodes = visit.first_node in
      let edge : (s.segment s.segments).first_edge ≡ s.edges = visit.first_edge in
      let m : s.edges ≤ edges = visit.more in
      record {
        on_path = omega arith;
        in_pending = omega arith;
        leads_on = λ p a b. reaches_same (sym begins) (sym (at_end p (omega arith) b)) (reaches_here visit.within);
        leads_out = λ k a b. reaches_same (sym begins) refl (reaches_edge g (visit.targets k (omega arith) b));
        closed = λ p v a b e. inr (pending_from (s.segment s.segments).first_edge v (omega arith) (visit_new_closed p v (omega arith) b e));
      }

  -- what is known of each segment
  visit_segment : (i : ℕ) → i < s.segments + 1 → IsSegment graph (visited s mark edges) i
  visit_segment i l =
      elim (cases_lt i s.segments) [
        | inl less ↦ visit_old_segment i less
        | inr more ↦ let at : s.segments ≡ i = omega arith in subst (IsSegment graph (visited s mark edges)) at visit_new_segment
      ]

  -- the new segment is the last one
  visit_before : (i j : ℕ) → i < j → j < s.segments + 1 → IsBefore (s.segment i) (s.segment j)
  visit_before i j a l =
      elim (cases_lt j s.segments) [
        | inl less ↦ h.before i j a less
        | inr more ↦ let at : s.segments ≡ j = omega arith in
            let o : IsSegment graph s i = h.segment i (omega arith) in
            let on : (s.segment i).first_node < s.nodes = o.on_path in
            let first : (s.segment i).first_edge ≤ s.edges = o.in_pending in
            let x : (s.segment s.segments).first_node ≡ s.nodes = visit.first_node in
            let y : (s.segment s.segments).first_edge ≡ s.edges = visit.first_edge in
            let new : IsBefore (s.segment i) (s.segment s.segments) = record { by_node = omega arith; by_edge = omega arith } in
            subst (λ k. IsBefore (s.segment i) (s.segment k)) at new
      ]

  -- each position has a segment
  visit_covered : (p : ℕ) → p < s.nodes + 1 → HasSegment graph (visited s mark edges) p
  visit_covered p l =
      elim (cases_lt p s.nodes) [
        | inl less ↦ let o : HasSegment graph s p = h.covered p less in
            let is : o.index < s.segments = o.is_segment in
            let first : (s.segment s.segments).first_node ≡ s.nodes = visit.first_node in
            record {
              index = o.index;
              is_segment = omega arith;
              begun = o.begun;
              not_ended = λ i a b. elim (cases_lt i s.segments) [
                | inl below ↦ o.not_ended i a below
                | inr above ↦ let at : s.segments ≡ i = omega arith in
                    let new : p < (s.segment s.segments).first_node = omega arith in subst (λ k. p < (s.segment k).first_node) at new
              ];
              leads_back = o.leads_back;
            }
        | inr more ↦ let first : (s.segment s.segments).first_node ≡ s.nodes = visit.first_node in
            record {
              index = s.segments;
              is_segment = omega arith;
              begun = omega arith;
              not_ended = λ i a b. absurd (omega arith);
              leads_back = reaches_same (sym (at_end p more l)) (sym begins) (reaches_here visit.within);
            }
      ]

  -- what is done leads down
  visit_done : (u number : ℕ) → mark u ≡ Done number → IsSettled graph (visited s mark edges) u number
  visit_done u number e =
      let o : IsSettled graph s u number = h.done u number (was u (Done number) (λ f. cc) e) in
      record { numbered = o.numbered; leads_down = λ v l. done_by_kept number v (o.leads_down v l) }

  -- the search is valid with one node more on the path
  pub visit_valid : IsValid graph (visited s mark edges)
  visit_valid = record {
    path = visit_path;
    pending = visit_pending;
    segment = visit_segment;
    before = visit_before;
    covered = visit_covered;
    done = visit_done;
    together = λ u v number a b. h.together u v number (was u (Done number) (λ f. cc) a) (was v (Done number) (λ f. cc) b);
  }
