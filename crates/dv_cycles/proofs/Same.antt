-- What is valid does not hang on what the functions of a state give past its counts.
use Rattle.std.proofs.Common.{◌≡◌, ℕ, ◌<◌, ◌≤◌, ◌⊎◌, inl, inr, List, length, take, get_or, true, refl, sym, subst, ap, arith, ◌∙◌}
use Rattle.std.proofs.lemmas.List.{get_or-take, length-take-le}
use Rattle.dv_cycles.specs.Ways.{leads}
use Rattle.dv_cycles.specs.Search.{HasSegment, IsBefore, IsSettled, IsDoneBy, IsHeld, IsPath, IsPending, IsPositioned, IsSegment}
use Rattle.dv_cycles.specs.Search.{IsValid, LeadTo, State, beginning}
use Rattle.dv_cycles.specs.declared.search.Mark.TheVariants.{Done}
use Rattle.dv_cycles.specs.declared.search.Segment.{Segment}
use Rattle.dv_cycles.proofs.Ways.{reaches_same}

-- the same counts, and the same functions below them
pub record IsSame (s t : State) : Type 0 where
  pub mark : (v : ℕ) → s.mark v ≡ t.mark v
  pub nodes : s.nodes ≡ t.nodes
  pub node : (p : ℕ) → p < s.nodes → s.node p ≡ t.node p
  pub edges : s.edges ≡ t.edges
  pub target : (k : ℕ) → k < s.edges → s.target k ≡ t.target k
  pub segments : s.segments ≡ t.segments
  pub segment : (i : ℕ) → i < s.segments → s.segment i ≡ t.segment i
  pub components : s.components ≡ t.components

module _ (graph : List (List ℕ)) (s t : State) (same : IsSame s t) (h : IsValid graph s) where
  -- an index below a count of the one state is one below that of the other
  of_nodes : {p : ℕ} → p < t.nodes → p < s.nodes
  of_nodes {p} l = subst (λ n. p < n) (sym same.nodes) l

  -- likewise of pending edges
  of_edges : {k : ℕ} → k < t.edges → k < s.edges
  of_edges {k} l = subst (λ n. k < n) (sym same.edges) l

  -- likewise of segments
  of_segments : {i : ℕ} → i < t.segments → i < s.segments
  of_segments {i} l = subst (λ n. i < n) (sym same.segments) l

  -- the segments begin at the same positions
  first_same : (i : ℕ) → i < s.segments → (s.segment i).first_node ≡ (t.segment i).first_node
  first_same i l = ap (λ (x : Segment). x.first_node) (same.segment i l)

  -- the segments begin at the same pending edges
  edge_same : (i : ℕ) → i < s.segments → (s.segment i).first_edge ≡ (t.segment i).first_edge
  edge_same i l = ap (λ (x : Segment). x.first_edge) (same.segment i l)

  -- the segments begin at the same nodes
  beginning_same : (i : ℕ) → i < s.segments → beginning s i ≡ beginning t i
  beginning_same i l = same.node (s.segment i).first_node (h.segment i l).on_path ∙ ap t.node (first_same i l)

  -- the marks say which nodes are on the path
  same_path : IsPath t.mark t.nodes t.node
  same_path = record {
    positioned = λ v position e. let o : IsPositioned s.nodes s.node v position = h.path.positioned v position (same.mark v ∙ e) in
        record { on_path = subst (λ n. position < n) same.nodes o.on_path; there = sym (same.node position o.on_path) ∙ o.there };
    on_path = λ p l. let k : p < s.nodes = of_nodes l in
        ap t.mark (sym (same.node p k)) ∙ sym (same.mark (s.node p)) ∙ h.path.on_path p k;
  }

  -- the same edges are pending
  same_pending : (first v : ℕ) → IsPending s.edges s.target first v → IsPending t.edges t.target first v
  same_pending first v a = record {
    index = a.index;
    after = a.after;
    within = subst (λ n. a.index < n) same.edges a.within;
    there = sym (same.target a.index a.within) ∙ a.there;
  }

  -- the same edges are held or pending
  same_closed : (first v : ℕ) → IsHeld first (s.mark v) ⊎ IsPending s.edges s.target first v
      → IsHeld first (t.mark v) ⊎ IsPending t.edges t.target first v
  same_closed first v (inl a) = inl (subst (IsHeld first) (same.mark v) a)
  same_closed first v (inr a) = inr (same_pending first v a)

  -- the same is known of each segment
  same_segment : (i : ℕ) → i < t.segments → IsSegment graph t i
  same_segment i l =
      let k : i < s.segments = of_segments l in
      let o : IsSegment graph s i = h.segment i k in
      let first : (s.segment i).first_node ≡ (t.segment i).first_node = first_same i k in
      let edge : (s.segment i).first_edge ≡ (t.segment i).first_edge = edge_same i k in
      record {
        on_path = subst (λ x. x < t.nodes) first (subst (λ n. (s.segment i).first_node < n) same.nodes o.on_path);
        in_pending = subst (λ x. x ≤ t.edges) edge (subst (λ n. (s.segment i).first_edge ≤ n) same.edges o.in_pending);
        leads_on = λ p a b. let c : p < s.nodes = of_nodes b in
            reaches_same (beginning_same i k) (same.node p c) (o.leads_on p (subst (λ x. x ≤ p) (sym first) a) c);
        leads_out = λ p a b. let c : p < s.edges = of_edges b in
            reaches_same (beginning_same i k) (same.target p c) (o.leads_out p (subst (λ x. x ≤ p) (sym edge) a) c);
        closed = λ p v a b e. let c : p < s.nodes = of_nodes b in
            let old : IsHeld (s.segment i).first_node (s.mark v) ⊎ IsPending s.edges s.target (s.segment i).first_edge v =
            o.closed p v (subst (λ x. x ≤ p) (sym first) a) c (subst (λ x. leads graph x v ≡ true) (sym (same.node p c)) e) in
            subst (λ (x : Segment). IsHeld x.first_node (t.mark v) ⊎ IsPending t.edges t.target x.first_edge v) (same.segment i k)
            (elim old [
              | inl y ↦ inl (subst (IsHeld (s.segment i).first_node) (same.mark v) y)
              | inr y ↦ inr (same_pending (s.segment i).first_edge v y)
            ]);
      }

  -- the segments are in order
  same_before : (i j : ℕ) → i < j → j < t.segments → IsBefore (t.segment i) (t.segment j)
  same_before i j a l =
      let k : j < s.segments = of_segments l in
      subst (λ x. IsBefore x (t.segment j)) (same.segment i (omega arith))
      (subst (λ x. IsBefore (s.segment i) x) (same.segment j k) (h.before i j a k))

  -- each position has a segment
  same_covered : (p : ℕ) → p < t.nodes → HasSegment graph t p
  same_covered p l =
      let k : p < s.nodes = of_nodes l in
      let o : HasSegment graph s p = h.covered p k in
      record {
        index = o.index;
        is_segment = subst (λ n. o.index < n) same.segments o.is_segment;
        begun = subst (λ x. x ≤ p) (first_same o.index o.is_segment) o.begun;
        not_ended = λ i a b. let c : i < s.segments = of_segments b in subst (λ x. p < x) (first_same i c) (o.not_ended i a c);
        leads_back = reaches_same (same.node p k) (beginning_same o.index o.is_segment) o.leads_back;
      }

  -- what is done leads down
  same_done : (u component : ℕ) → t.mark u ≡ Done component → IsSettled graph t u component
  same_done u component e =
      let o : IsSettled graph s u component = h.done u component (same.mark u ∙ e) in
      record {
        numbered = subst (λ n. component < n) same.components o.numbered;
        leads_down = λ v l. subst (IsDoneBy component) (same.mark v) (o.leads_down v l);
      }

  -- the segments lead to the same nodes
  pub same_led_to : (v : ℕ) → LeadTo graph s v → LeadTo graph t v
  same_led_to v led i l = let k : i < s.segments = of_segments l in reaches_same (beginning_same i k) refl (led i k)

  -- the one state is valid where the other is
  pub same_valid : IsValid graph t
  same_valid = record {
    path = same_path;
    pending = λ k l. let c : k < s.edges = of_edges l in subst (λ x. x < length graph) (same.target k c) (h.pending k c);
    segment = same_segment;
    before = same_before;
    covered = same_covered;
    done = same_done;
    together = λ u v component a b. h.together u v component (same.mark u ∙ a) (same.mark v ∙ b);
  }

-- the front of a list
pub length_front : {X : Type 0} (xs ys : List X) (n : ℕ) → ys ≡ take n xs → n ≤ length xs → n ≡ length ys
length_front xs ys n e l = sym (ap length e ∙ length-take-le n xs l)

-- the indices of the front
pub at_front : {X : Type 0} (xs ys : List X) (n k : ℕ) (d : X) → ys ≡ take n xs → k < n → get_or xs k d ≡ get_or ys k d
at_front xs ys n k d e l = sym (ap (λ zs. get_or zs k d) e ∙ get_or-take n xs k d l)
