-- The steps of the search on the lists that it keeps.
use Rattle.std.proofs.Common.{◌≡◌, ℕ, ◌+◌, ◌-◌, ◌<◌, ◌≤◌, List, [], ◌∷◌, ◌++◌, length, take, get_or, set, true, refl, sym, subst}
use Rattle.std.proofs.Common.{ap, arith, ◌∙◌, eq-eqb, nat_eq}
use Rattle.std.proofs.lemmas.List.{get_or-append-add, get_or-append_right, get_or-set_other, get_or-set_same, get_or_append_left}
use Rattle.std.proofs.lemmas.List.{get_or_push, length-append, length_push}
use Rattle.std.proofs.lemmas.List.Folds.{list_any_at}
use Rattle.dv_cycles.specs.Ways.{IsGraph, is_in, leads}
use Rattle.dv_cycles.specs.Search.{IsHeld, IsOpen, IsPending, IsPositioned, IsSegment, IsValid, LeadTo, Reaches, State, beginning}
use Rattle.dv_cycles.specs.Search.{last_segment, last_target, mark_at, nowhere, segment_at, settled, state, state_of}
use Rattle.dv_cycles.specs.declared.search.Mark.{Mark}
use Rattle.dv_cycles.specs.declared.search.Mark.TheVariants.{New, OnPath}
use Rattle.dv_cycles.specs.declared.search.Search.{Search}
use Rattle.dv_cycles.specs.declared.search.Segment.{Segment}
use Rattle.dv_cycles.proofs.Same.{IsSame, at_front, length_front, same_led_to, same_valid}
use Rattle.dv_cycles.proofs.Closes.{closed_to, close_begun, close_last, close_valid}
use Rattle.dv_cycles.proofs.Finishes.{finished, finish_valid}
use Rattle.dv_cycles.proofs.Order.{first_edge_le}
use Rattle.dv_cycles.proofs.Passes.{passed, pass_valid}
use Rattle.dv_cycles.proofs.Visits.{IsVisit, visited, visit_valid}
use Rattle.dv_cycles.proofs.Ways.{is_in_index, reaches_same}

-- an element of a list is in it
edge_at : (targets : List ℕ) (k : ℕ) → k < length targets → is_in (get_or targets k 0) targets ≡ true
edge_at targets k l =
    let v : ℕ = get_or targets k 0 in
    list_any_at (λ w. nat_eq w v) targets k 0 l (eq-eqb v v refl)

module _ (graph : List (List ℕ)) (search : Search) (h : IsValid graph (state_of search)) where
  -- the state of the lists of the search
  abbrev pub before : State
  before = state_of search

  -- the last pending edge is left out
  pub pass_lists : (less : List ℕ) → IsOpen before → IsHeld (last_segment before).first_node (before.mark (last_target before))
      → less ≡ take (length search.pending.items - 1) search.pending.items
      → IsValid graph (state search.marks.items search.path.items less search.segments.items search.components)
  pass_lists less unfollowed held rest =
      let pending : List ℕ = search.pending.items in
      let after : State = state search.marks.items search.path.items less search.segments.items search.components in
      let same : IsSame (passed before) after = record {
        mark = λ v. refl;
        nodes = refl;
        node = λ p l. refl;
        edges = length_front pending less (length pending - 1) rest (omega arith);
        target = λ k l. at_front pending less (length pending - 1) k 0 rest l;
        segments = refl;
        segment = λ i l. refl;
        components = refl;
      } in
      same_valid graph (passed before) after same (pass_valid graph before h unfollowed.begun unfollowed.edge held)

  module _ (less : List ℕ) (joined : List Segment) (position : ℕ) (unfollowed : IsOpen before)
      (on_path : before.mark (last_target before) ≡ OnPath position)
      (fewer : length joined ≤ length search.segments.items) (kept : joined ≡ take (length joined) search.segments.items)
      (later : (i : ℕ) → length joined ≤ i → i < before.segments → position < (before.segment i).first_node)
      (last : 0 < length joined → (segment_at joined (length joined - 1)).first_node ≤ position)
      (rest : less ≡ take (length search.pending.items - 1) search.pending.items) where
    -- the last pending edge leads to the position
    close_at : IsPositioned before.nodes before.node (last_target before) position
    close_at = h.path.positioned (last_target before) position on_path

    -- the last segment leads to the position
    close_back : Reaches graph (beginning before (before.segments - 1)) (before.node position)
    close_back =
        let begun : 0 < before.segments = unfollowed.begun in
        let edge : (last_segment before).first_edge < before.edges = unfollowed.edge in
        let end : IsSegment graph before (before.segments - 1) = h.segment (before.segments - 1) (omega arith) in
        reaches_same refl (sym close_at.there) (end.leads_out (before.edges - 1) (omega arith) (omega arith))

    -- the segments that are left are the same
    segment_same : (i : ℕ) → i < length joined → before.segment i ≡ segment_at joined i
    segment_same i l = at_front search.segments.items joined (length joined) i nowhere kept l

    -- the last segment that is left begins no later than the position
    close_first : 0 < length joined → (before.segment (length joined - 1)).first_node ≤ position
    close_first some = subst (λ (x : Segment). x.first_node ≤ position) (sym (segment_same (length joined - 1) (omega arith))) (last some)

    -- the last segments are joined, and the last pending edge is left out
    pub close_lists : IsValid graph (state search.marks.items search.path.items less joined search.components)
    close_lists =
        let k : ℕ = length joined in
        let begun : 0 < before.segments = unfollowed.begun in
        let edge : (last_segment before).first_edge < before.edges = unfollowed.edge in
        let some : 0 < k = close_begun graph before h begun k position fewer close_at.on_path later close_first close_back in
        let first : (before.segment (k - 1)).first_node ≤ position =
        close_last graph before h begun k position fewer close_at.on_path later close_first close_back in
        let closed : State = closed_to before k in
        let valid : IsValid graph closed =
        close_valid graph before h begun k position fewer close_at.on_path later close_first close_back in
        let ends : (before.segment (k - 1)).first_edge ≤ (last_segment before).first_edge =
        first_edge_le graph before h (k - 1) (before.segments - 1) (omega arith) (omega arith) in
        let held : IsHeld (last_segment closed).first_node (closed.mark (last_target closed)) =
        subst (IsHeld (last_segment closed).first_node) (sym on_path) first in
        let pending : List ℕ = search.pending.items in
        let after : State = state search.marks.items search.path.items less joined search.components in
        let same : IsSame (passed closed) after = record {
          mark = λ v. refl;
          nodes = refl;
          node = λ p l. refl;
          edges = length_front pending less (length pending - 1) rest (omega arith);
          target = λ i l. at_front pending less (length pending - 1) i 0 rest l;
          segments = refl;
          segment = segment_same;
          components = refl;
        } in
        same_valid graph (passed closed) after same (pass_valid graph closed valid some (omega arith) held)

  -- the last segment is a component
  pub finish_lists : (done : List Mark) (shorter : List ℕ) (fewer : List Segment) → 0 < before.segments
      → before.edges ≤ (last_segment before).first_edge
      → ((v : ℕ) → mark_at done v ≡ settled search.components (last_segment before).first_node (before.mark v))
      → shorter ≡ take (last_segment before).first_node search.path.items
      → fewer ≡ take (length search.segments.items - 1) search.segments.items
      → IsValid graph (state done shorter search.pending.items fewer (search.components + 1))
  finish_lists done shorter fewer begun followed marked front rest =
      let path : List ℕ = search.path.items in
      let segments : List Segment = search.segments.items in
      let first : ℕ = (last_segment before).first_node in
      let end : IsSegment graph before (before.segments - 1) = h.segment (before.segments - 1) (omega arith) in
      let on : first < length path = end.on_path in
      let after : State = state done shorter search.pending.items fewer (search.components + 1) in
      let same : IsSame (finished before) after = record {
        mark = λ v. sym (marked v);
        nodes = length_front path shorter first front (omega arith);
        node = λ p l. at_front path shorter first p 0 front l;
        edges = refl;
        target = λ k l. refl;
        segments = length_front segments fewer (length segments - 1) rest (omega arith);
        segment = λ i l. at_front segments fewer (length segments - 1) i nowhere rest l;
        components = refl;
      } in
      same_valid graph (finished before) after same (finish_valid graph before h begun followed)

  module _ (g : IsGraph graph) (n : ℕ) (within : n < length graph) (is_marked : n < length search.marks.items)
      (new : before.mark n ≡ New) (led : LeadTo graph before n) where
    -- the segment of the node
    abbrev pub own : Segment
    own = record { first_node = length search.path.items; first_edge = length search.pending.items }

    -- the nodes that its edges lead to
    abbrev pub targets : List ℕ
    targets = get_or graph n []

    -- the state with the node at the end of the path
    abbrev pub longer : State
    longer =
        state (set search.marks.items n (OnPath (length search.path.items))) (search.path.items ++ n ∷ []) (search.pending.items ++ targets)
        (search.segments.items ++ own ∷ []) search.components

    -- the state before, with the new lists
    abbrev pub ready : State
    ready = record before { node = longer.node; target = longer.target; segment = longer.segment }

    -- it is the same below the counts before
    ready_same : IsSame before ready
    ready_same = record {
      mark = λ v. refl;
      nodes = refl;
      node = λ p l. sym (get_or_append_left search.path.items (n ∷ []) 0 p l);
      edges = refl;
      target = λ k l. sym (get_or_append_left search.pending.items targets 0 k l);
      segments = refl;
      segment = λ i l. sym (get_or_append_left search.segments.items (own ∷ []) nowhere i l);
      components = refl;
    }

    -- the new pending edges are edges of the node
    target_at : (k : ℕ) → before.edges ≤ k → k < longer.edges → leads graph n (longer.target k) ≡ true
    target_at k a l =
        let pending : List ℕ = search.pending.items in
        let long : longer.edges ≡ length pending + length targets = length-append pending targets in
        let is : longer.target k ≡ get_or targets (k - length pending) 0 =
        get_or-append_right pending targets (length pending) k 0 refl a in
        subst (λ w. is_in w targets ≡ true) (sym is) (edge_at targets (k - length pending) (omega arith))

    -- each edge of the node is a new pending edge
    target_index : (v : ℕ) → leads graph n v ≡ true → IsPending longer.edges longer.target before.edges v
    target_index v e =
        let pending : List ℕ = search.pending.items in
        let long : longer.edges ≡ length pending + length targets = length-append pending targets in
        let at = is_in_index v targets e in
        record {
          index = length pending + at.0;
          after = omega arith;
          within = omega arith;
          there = get_or-append-add pending targets at.0 0 ∙ at.2;
        }

    -- the new lists are those of a visit
    visit : IsVisit graph ready n longer.mark longer.edges
    visit =
        let long : longer.edges ≡ before.edges + length targets = length-append search.pending.items targets in
        let is : longer.segment before.segments ≡ own = get_or_push search.segments.items own nowhere before.segments refl in
        record {
          new = new;
          within = within;
          led_to = same_led_to graph before ready ready_same h n led;
          marked = get_or-set_same search.marks.items n (OnPath before.nodes) New is_marked;
          others = λ v ne. get_or-set_other search.marks.items n v (OnPath before.nodes) New ne;
          node = get_or_push search.path.items n 0 before.nodes refl;
          first_node = ap (λ (x : Segment). x.first_node) is;
          first_edge = ap (λ (x : Segment). x.first_edge) is;
          more = omega arith;
          targets = target_at;
          all_targets = target_index;
        }

    -- and all that they have is of the visit
    visited_same : IsSame (visited ready longer.mark longer.edges) longer
    visited_same = record {
      mark = λ v. refl;
      nodes = sym (length_push search.path.items n);
      node = λ p l. refl;
      edges = refl;
      target = λ k l. refl;
      segments = sym (length_push search.segments.items own);
      segment = λ i l. refl;
      components = refl;
    }

    -- the search is valid with the node on the path
    visit_longer : IsValid graph longer
    visit_longer =
        same_valid graph (visited ready longer.mark longer.edges) longer visited_same
        (visit_valid graph g ready (same_valid graph before ready ready_same h) n longer.mark longer.edges visit)

    -- the same with names for the lists afterwards
    pub visit_lists : (position first_node first_edge : ℕ) (path pending : List ℕ) (segments : List Segment)
        → position ≡ length search.path.items → first_node ≡ length search.path.items → first_edge ≡ length search.pending.items
        → path ≡ search.path.items ++ n ∷ [] → pending ≡ search.pending.items ++ get_or graph n []
        → segments ≡ search.segments.items ++ (record { first_node = first_node; first_edge = first_edge }) ∷ []
        → IsValid graph (state (set search.marks.items n (OnPath position)) path pending segments search.components)
    visit_lists position first_node first_edge path pending segments at node edge paths pendings segmented =
        rw (paths, pendings, segmented, at, node, edge) visit_longer
