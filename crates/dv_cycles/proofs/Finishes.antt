-- To make a component of the last segment leaves the search valid.
use Rattle.std.proofs.Common.{◌≡◌, ℕ, ◌+◌, ◌-◌, ◌<◌, ◌≤◌, ◌⊎◌, inl, inr, List, true, sym, subst, ap, arith, ◌∙◌}
use Rattle.std.proofs.lemmas.Bool.{cases_lt}
use Rattle.dv_cycles.specs.Ways.{leads}
use Rattle.dv_cycles.specs.Search.{HasSegment, IsBefore, IsSettled, IsDoneBy, IsHeld, IsPath, IsPending, IsPositioned, IsSegment}
use Rattle.dv_cycles.specs.Search.{IsValid, Reaches, State, beginning, last_segment, settled}
use Rattle.dv_cycles.specs.declared.search.Mark.TheVariants.{OnPath, Done}
use Rattle.dv_cycles.proofs.Marks.{held_done_by, settled_before, settled_done, settled_done_by, settled_held, settled_on_path}
use Rattle.dv_cycles.proofs.Ways.{reaches_on, reaches_same}
use Rattle.dv_cycles.proofs.Order.{first_node_le}

-- the last segment has no edge left to follow, and is a component
abbrev pub finished : State → State
finished s = record s {
  mark = λ v. settled s.components (last_segment s).first_node (s.mark v);
  nodes = (last_segment s).first_node;
  segments = s.segments - 1;
  components = s.components + 1;
}

module _ (graph : List (List ℕ)) (s : State) (h : IsValid graph s) (begun : 0 < s.segments)
    (followed : s.edges ≤ (last_segment s).first_edge) where
  -- what is known of the last segment
  finish_last : IsSegment graph s (s.segments - 1)
  finish_last = h.segment (s.segments - 1) (omega arith)

  -- the nodes of the component lead to each other
  finish_back : (p : ℕ) → (last_segment s).first_node ≤ p → p < s.nodes → Reaches graph (s.node p) (beginning s (s.segments - 1))
  finish_back p a l =
      let o : HasSegment graph s p = h.covered p l in
      let is : o.index < s.segments = o.is_segment in
      elim (cases_lt o.index (s.segments - 1)) [
        | inl less ↦ let b : p < (last_segment s).first_node = o.not_ended (s.segments - 1) less (omega arith) in absurd (omega arith)
        | inr more ↦ let e : o.index ≡ s.segments - 1 = omega arith in subst (λ x. Reaches graph (s.node p) (beginning s x)) e o.leads_back
      ]

  -- two nodes of the component lead to each other
  finish_reaches : (u v p q : ℕ) → s.mark u ≡ OnPath p → s.mark v ≡ OnPath q
      → (last_segment s).first_node ≤ p → (last_segment s).first_node ≤ q → Reaches graph u v
  finish_reaches u v p q a b f g =
      let x : IsPositioned s.nodes s.node u p = h.path.positioned u p a in
      let y : IsPositioned s.nodes s.node v q = h.path.positioned v q b in
      reaches_same x.there y.there (reaches_on (finish_back p f x.on_path) (finish_last.leads_on q g y.on_path))

  -- the marks say what is left of the path
  finish_path : IsPath (finished s).mark (last_segment s).first_node s.node
  finish_path = record {
    positioned = λ v position e. let m = settled_on_path s.components (last_segment s).first_node (s.mark v) position e in
        let o : IsPositioned s.nodes s.node v position = h.path.positioned v position m.0 in
        record { on_path = m.1; there = o.there };
    on_path = λ p l. let f : (last_segment s).first_node < s.nodes = finish_last.on_path in
        let e : s.mark (s.node p) ≡ OnPath p = h.path.on_path p (omega arith) in
        ap (settled s.components (last_segment s).first_node) e ∙ settled_before s.components (last_segment s).first_node p l;
  }

  -- what a segment held it still holds, or it is done
  finish_closed : (i v : ℕ) → IsHeld (s.segment i).first_node (s.mark v) ⊎ IsPending s.edges s.target (s.segment i).first_edge v
      → IsHeld (s.segment i).first_node ((finished s).mark v) ⊎ IsPending s.edges s.target (s.segment i).first_edge v
  finish_closed i v (inl a) = inl (settled_held s.components (last_segment s).first_node (s.mark v) (s.segment i).first_node a)
  finish_closed i v (inr a) = inr a

  -- each segment before keeps what is known of it
  finish_segment : (i : ℕ) → i < s.segments - 1 → IsSegment graph (finished s) i
  finish_segment i l =
      let o : IsSegment graph s i = h.segment i (omega arith) in
      let b : IsBefore (s.segment i) (last_segment s) = h.before i (s.segments - 1) l (omega arith) in
      let f : (last_segment s).first_node < s.nodes = finish_last.on_path in
      record {
        on_path = b.by_node;
        in_pending = o.in_pending;
        leads_on = λ p a c. o.leads_on p a (omega arith);
        leads_out = o.leads_out;
        closed = λ p v a c e. finish_closed i v (o.closed p v a (omega arith) e);
      }

  -- each position before has one of the segments before
  finish_covered : (p : ℕ) → p < (last_segment s).first_node → HasSegment graph (finished s) p
  finish_covered p l =
      let f : (last_segment s).first_node < s.nodes = finish_last.on_path in
      let o : HasSegment graph s p = h.covered p (omega arith) in
      let begins : (s.segment o.index).first_node ≤ p = o.begun in
      let is : o.index < s.segments - 1 = elim (cases_lt o.index (s.segments - 1)) [
        | inl y ↦ y
        | inr n ↦ let le : (last_segment s).first_node ≤ (s.segment o.index).first_node =
            first_node_le graph s h (s.segments - 1) o.index n o.is_segment in absurd (omega arith)
      ] in
      record {
        index = o.index;
        is_segment = is;
        begun = begins;
        not_ended = λ i a c. o.not_ended i a (omega arith);
        leads_back = o.leads_back;
      }

  -- an edge of the component leads to a node that is done
  finish_leads_down : (u p v : ℕ) → s.mark u ≡ OnPath p → (last_segment s).first_node ≤ p → leads graph u v ≡ true
      → IsDoneBy s.components ((finished s).mark v)
  finish_leads_down u p v a f l =
      let x : IsPositioned s.nodes s.node u p = h.path.positioned u p a in
      let below : (earlier : ℕ) → s.mark v ≡ Done earlier → earlier ≤ s.components =
      λ earlier e. let o : earlier < s.components = (h.done v earlier e).numbered in omega arith in
      elim (finish_last.closed p v f x.on_path (subst (λ w. leads graph w v ≡ true) (sym x.there) l)) [
        | inl held ↦ held_done_by s.components (last_segment s).first_node (s.mark v) held below
        | inr e ↦ let y : (last_segment s).first_edge ≤ e.index = e.after in let z : e.index < s.edges = e.within in absurd (omega arith)
      ]

  -- what is done leads down
  finish_done : (u number : ℕ) → (finished s).mark u ≡ Done number → IsSettled graph (finished s) u number
  finish_done u number e =
      elim (settled_done s.components (last_segment s).first_node (s.mark u) number e) [
        | inl old ↦ let o : IsSettled graph s u number = h.done u number old in let n : number < s.components = o.numbered in
            record {
              numbered = omega arith;
              leads_down = λ v l. settled_done_by s.components (last_segment s).first_node (s.mark v) number (o.leads_down v l);
            }
        | inr new ↦ let n : s.components ≡ number = new.3 in
            record {
              numbered = omega arith;
              leads_down = λ v l. subst (λ x. IsDoneBy x ((finished s).mark v)) n (finish_leads_down u new.0 v new.1 new.2 l);
            }
      ]

  -- nodes of one number lead to each other
  finish_together : (u v number : ℕ) → (finished s).mark u ≡ Done number → (finished s).mark v ≡ Done number → Reaches graph u v
  finish_together u v number a b =
      elim (settled_done s.components (last_segment s).first_node (s.mark u) number a) [
        | inl x ↦ elim (settled_done s.components (last_segment s).first_node (s.mark v) number b) [
          | inl y ↦ h.together u v number x y
          | inr y ↦ let n : number < s.components = (h.done u number x).numbered in
              let e : s.components ≡ number = y.3 in absurd (omega arith)
        ]
        | inr x ↦ elim (settled_done s.components (last_segment s).first_node (s.mark v) number b) [
          | inl y ↦ let n : number < s.components = (h.done v number y).numbered in
              let e : s.components ≡ number = x.3 in absurd (omega arith)
          | inr y ↦ finish_reaches u v x.0 y.0 x.1 y.1 x.2 y.2
        ]
      ]

  -- the search is valid with one component more
  pub finish_valid : IsValid graph (finished s)
  finish_valid = record {
    path = finish_path;
    pending = h.pending;
    segment = finish_segment;
    before = λ i j a l. h.before i j a (omega arith);
    covered = finish_covered;
    done = finish_done;
    together = finish_together;
  }
