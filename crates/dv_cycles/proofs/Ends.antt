-- At its end a search knows the components.
use Rattle.std.proofs.Common.{◌≡◌, ◌↔◌, ℕ, ◌<◌, ◌≤◌, List, true, sym, subst, ap, arith, ◌∙◌}
use Rattle.dv_cycles.specs.Ways.{has_way}
use Rattle.dv_cycles.specs.Search.{HasSegment, IsDoneBy, IsPositioned, IsValid, State, number_of}
use Rattle.dv_cycles.specs.declared.search.Mark.TheVariants.{New, OnPath, Done}
use Rattle.dv_cycles.proofs.Marks.{component_by, component_of, done_by_weaker}
use Rattle.dv_cycles.proofs.Ways.{way_kept}

module _ (graph : List (List ℕ)) (s : State) (h : IsValid graph s) where
  -- what a node leads to is done no later
  way_down : (u v : ℕ) → has_way graph u v ≡ true → (component : ℕ) → s.mark u ≡ Done component → IsDoneBy component (s.mark v)
  way_down =
      way_kept graph (λ u v. (component : ℕ) → s.mark u ≡ Done component → IsDoneBy component (s.mark v))
      (λ u component e. let r : component ≤ component = omega arith in subst (IsDoneBy component) (sym e) r)
      (λ u v l component e. (h.done u component e).leads_down v l)
      (λ u w v a b component e. let c = component_by (s.mark w) component (a component e) in
      done_by_weaker (s.mark v) c.0 component c.2 (b c.0 c.1))

  -- a way leads to a number that is no greater
  number_le : (u v a b : ℕ) → s.mark u ≡ Done a → s.mark v ≡ Done b → has_way graph u v ≡ true → b ≤ a
  number_le u v a b e f way = subst (IsDoneBy a) f (way_down u v way a e)

  module _ (idle : s.segments ≡ 0) where
    -- with no segment left there is no path
    off_path : (v position : ℕ) → s.mark v ≡ OnPath position → ⊥
    off_path v position e =
        let at : IsPositioned s.nodes s.node v position = h.path.positioned v position e in
        let o : HasSegment graph s position = h.covered position at.on_path in
        let is : o.index < s.segments = o.is_segment in omega arith

    -- two nodes have the same number where each leads to the other
    pub numbers_together : (u v : ℕ) → (s.mark u ≡ New → ⊥) → (s.mark v ≡ New → ⊥)
        → (number_of (s.mark u) ≡ number_of (s.mark v)) ↔ ((has_way graph u v ≡ true) × (has_way graph v u ≡ true))
    numbers_together u v a b =
        let x = component_of (s.mark u) a (off_path u) in
        let y = component_of (s.mark v) b (off_path v) in
        let m : number_of (s.mark u) ≡ x.0 = ap number_of x.1 in
        let n : number_of (s.mark v) ≡ y.0 = ap number_of y.1 in (
          (λ e. let same : s.mark v ≡ Done x.0 = y.1 ∙ ap Done (sym n ∙ sym e ∙ m) in
              ((h.together u v x.0 x.1 same).way, (h.together v u x.0 same x.1).way)),
          (λ ways. let p : y.0 ≤ x.0 = number_le u v x.0 y.0 x.1 y.1 ways.0 in
              let q : x.0 ≤ y.0 = number_le v u y.0 x.0 y.1 x.1 ways.1 in omega arith),
        )
