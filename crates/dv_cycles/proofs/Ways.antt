-- Ways go on one after the other, and what falls along no edge falls along no way.
use Rattle.std.proofs.Common.{◌≡◌, ℕ, zero, suc, ◌<◌, ◌⊎◌, inl, inr, true, ◌&&◌, List, [], length, get_or, refl, subst, arith}
use Rattle.std.proofs.Common.{eq-eqb, nat_eq, ◌∙◌}
use Rattle.std.proofs.lemmas.Bool.{and_from, and_parts, cases_lt, cases_order, eqb-true, false≢true, or_cases, or_left, or_right}
use Rattle.std.specs.List.{Any}
use Rattle.std.proofs.lemmas.List.{get_or_default, get_or_past}
use Rattle.std.proofs.lemmas.List.Folds.{Any-from_list_any}
use Rattle.dv_cycles.specs.Ways.{IsGraph, Way, Here, Step, has_way, has_way_below, is_in, leads}
use Rattle.dv_cycles.specs.Search.{Reaches}

module _ (graph : List (List ℕ)) where
  -- what one more node lets through
  below_more : (k u v : ℕ) → has_way_below k graph u v ≡ true → has_way_below (suc k) graph u v ≡ true
  below_more k u v h = or_left (has_way_below k graph u v) (has_way_below k graph u k && has_way_below k graph k v) h

  -- a way to the next node and one from it are one through it
  below_through : (k u v : ℕ) → has_way_below k graph u k ≡ true → has_way_below k graph k v ≡ true → has_way_below (suc k) graph u v ≡ true
  below_through k u v a b =
      or_right (has_way_below k graph u v) (has_way_below k graph u k && has_way_below k graph k v)
      (and_from (has_way_below k graph u k) (has_way_below k graph k v) a b)

  -- a way either has no need of the next node, or goes to it and on from it
  below_cases : (k u v : ℕ) → has_way_below (suc k) graph u v ≡ true
      → (has_way_below k graph u v ≡ true) ⊎ ((has_way_below k graph u k ≡ true) × (has_way_below k graph k v ≡ true))
  below_cases k u v h =
      elim (or_cases (has_way_below k graph u v) (has_way_below k graph u k && has_way_below k graph k v) h) [
        | inl a ↦ inl a
        | inr b ↦ inr (and_parts (has_way_below k graph u k) (has_way_below k graph k v) b)
      ]

  -- ways compose at a node below the others
  below_joined : (k u w v : ℕ)
      → ((a b : ℕ) → has_way_below k graph a w ≡ true → has_way_below k graph w b ≡ true → has_way_below k graph a b ≡ true)
      → has_way_below (suc k) graph u w ≡ true → has_way_below (suc k) graph w v ≡ true → has_way_below (suc k) graph u v ≡ true
  below_joined k u w v compose a b =
      elim (below_cases k u w a) [
        | inl p ↦ elim (below_cases k w v b) [
          | inl q ↦ below_more k u v (compose u v p q)
          | inr q ↦ below_through k u v (compose u k p q.0) q.1
        ]
        | inr p ↦ elim (below_cases k w v b) [
          | inl q ↦ below_through k u v p.0 (compose k v p.1 q)
          | inr q ↦ below_through k u v p.0 q.1
        ]
      ]

  -- ways compose at the next node
  below_joined_at : (k u v : ℕ) → has_way_below (suc k) graph u k ≡ true → has_way_below (suc k) graph k v ≡ true
      → has_way_below (suc k) graph u v ≡ true
  below_joined_at k u v a b =
      let p : has_way_below k graph u k ≡ true = elim (below_cases k u k a) [ inl h ↦ h | inr h ↦ h.0 ] in
      let q : has_way_below k graph k v ≡ true = elim (below_cases k k v b) [ inl h ↦ h | inr h ↦ h.1 ] in
      below_through k u v p q

  -- ways compose at any node that they may pass
  below_composed : (k u w v : ℕ) → w < k → has_way_below k graph u w ≡ true → has_way_below k graph w v ≡ true
      → has_way_below k graph u v ≡ true
  below_composed zero u w v l a b = absurd (omega arith)
  below_composed (suc k) u w v l a b =
      elim (cases_order w k) [
        | inl e ↦ let P : ℕ → Type 0 = λ x. (has_way_below (suc k) graph u x ≡ true) × (has_way_below (suc k) graph x v ≡ true) in
            let both : P k = subst P e (a, b) in below_joined_at k u v both.0 both.1
        | inr o ↦ elim o [
          | inl less ↦ below_joined k u w v (λ x y. below_composed k x w y less) a b
          | inr more ↦ absurd (omega arith)
        ]
      ]

  -- a way of no or one edge stays with more nodes
  below_from_zero : (k u v : ℕ) → has_way_below 0 graph u v ≡ true → has_way_below k graph u v ≡ true
  below_from_zero zero u v h = h
  below_from_zero (suc k) u v h = below_more k u v (below_from_zero k u v h)

  -- a node has a way to itself
  pub way_here : (u : ℕ) → has_way graph u u ≡ true
  way_here u = below_from_zero (length graph) u u (or_left (nat_eq u u) (leads graph u u) (eq-eqb u u refl))

  -- an edge is a way
  pub way_edge : (u v : ℕ) → leads graph u v ≡ true → has_way graph u v ≡ true
  way_edge u v h = below_from_zero (length graph) u v (or_right (nat_eq u v) (leads graph u v) h)

  -- ways compose at a node of the graph
  pub way_on : (u w v : ℕ) → w < length graph → has_way graph u w ≡ true → has_way graph w v ≡ true → has_way graph u v ≡ true
  way_on u w v l a b = below_composed (length graph) u w v l a b

  -- what each edge keeps, each way keeps
  below_kept : (R : ℕ → ℕ → Type 0) → ((u : ℕ) → R u u) → ((u v : ℕ) → leads graph u v ≡ true → R u v)
      → ((u w v : ℕ) → R u w → R w v → R u v) → (k u v : ℕ) → has_way_below k graph u v ≡ true → R u v
  below_kept R here edge on zero u v h =
      elim (or_cases (nat_eq u v) (leads graph u v) h) [
        | inl e ↦ subst (λ x. R u x) (eqb-true u v e) (here u)
        | inr l ↦ edge u v l
      ]
  below_kept R here edge on (suc k) u v h =
      elim (below_cases k u v h) [
        | inl p ↦ below_kept R here edge on k u v p
        | inr p ↦ on u k v (below_kept R here edge on k u k p.0) (below_kept R here edge on k k v p.1)
      ]

  -- what edges keep, ways keep
  pub way_kept : (R : ℕ → ℕ → Type 0) → ((u : ℕ) → R u u) → ((u v : ℕ) → leads graph u v ≡ true → R u v)
      → ((u w v : ℕ) → R u w → R w v → R u v) → (u v : ℕ) → has_way graph u v ≡ true → R u v
  way_kept R here edge on u v h = below_kept R here edge on (length graph) u v h

-- where a node stands in a list
pub is_in_index : (v : ℕ) (nodes : List ℕ) → is_in v nodes ≡ true → (k : ℕ) × (k < length nodes) × (get_or nodes k 0 ≡ v)
is_in_index v nodes h =
    let a : Any (λ w. nat_eq w v ≡ true) nodes = Any-from_list_any (λ w. nat_eq w v) nodes h in
    let e : get_or nodes a.0 a.1 ≡ v = a.3 ∙ eqb-true a.1 v a.4 in
    (a.0, a.2, get_or_default nodes a.0 0 a.1 a.2 ∙ e)

-- a node with an edge is one of the graph
from_within : (graph : List (List ℕ)) (u v : ℕ) → leads graph u v ≡ true → u < length graph
from_within graph u v h =
    elim (cases_lt u (length graph)) [
      | inl l ↦ l
      | inr g ↦ absurd (false≢true (subst (λ nodes. is_in v nodes ≡ true) (get_or_past graph u [] g) h))
    ]

-- an edge leads to a node of the graph
pub edge_within : (graph : List (List ℕ)) (u v : ℕ) → IsGraph graph → leads graph u v ≡ true → v < length graph
edge_within graph u v g h =
    let at = is_in_index v (get_or graph u []) h in
    subst (λ w. w < length graph) at.2 (g u [] (from_within graph u v h) at.0 0 at.1)

-- ways of a graph
module _ {graph : List (List ℕ)} where
  -- a node reaches itself
  pub reaches_here : {u : ℕ} → u < length graph → Reaches graph u u
  reaches_here {u} l = record { within = l; way = way_here graph u }

  -- an edge reaches where it leads to
  pub reaches_edge : {u v : ℕ} → IsGraph graph → leads graph u v ≡ true → Reaches graph u v
  reaches_edge {u} {v} g h = record { within = edge_within graph u v g h; way = way_edge graph u v h }

  -- what is reached reaches on
  pub reaches_on : {u w v : ℕ} → Reaches graph u w → Reaches graph w v → Reaches graph u v
  reaches_on {u} {w} {v} a b = record { within = b.within; way = way_on graph u w v a.within a.way b.way }

  -- ways between equal nodes
  pub reaches_same : {u v x y : ℕ} → u ≡ x → v ≡ y → Reaches graph u v → Reaches graph x y
  reaches_same {u} {v} {x} {y} e f a = subst (λ z. Reaches graph x z) f (subst (λ z. Reaches graph z v) e a)

module _ (graph : List (List ℕ)) where
  -- edges after edges
  joined : {u w v : ℕ} → Way graph u w → Way graph w v → Way graph u v
  joined Here b = b
  joined (Step l a) b = Step l (joined a b)

  -- a way has edges
  pub Way-from_has_way : (u v : ℕ) → has_way graph u v ≡ true → Way graph u v
  Way-from_has_way = way_kept graph (Way graph) (λ u. Here) (λ u v l. Step l Here) (λ u w v a b. joined a b)

  -- edges in a row are a way
  pub has_way-from_Way : {u v : ℕ} → IsGraph graph → Way graph u v → has_way graph u v ≡ true
  has_way-from_Way {u} g Here = way_here graph u
  has_way-from_Way g (Step {u = u} {v = w} {w = v} l a) =
      way_on graph u w v (edge_within graph u w g l) (way_edge graph u w l) (has_way-from_Way g a)
