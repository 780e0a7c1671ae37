-- The marks while the nodes of a component are taken off the path.
use Rattle.std.proofs.Common.{◌≡◌, ℕ, ◌+◌, ◌<◌, ◌≤◌, inl, inr, cond, List, length, get_or, set, take, refl, sym, ap, arith, ◌∙◌}
use Rattle.std.proofs.lemmas.Bool.{cases_eq, cases_order}
use Rattle.std.proofs.lemmas.List.{get_or_read, get_or-set_other, get_or-set_same, take-take}
use Rattle.dv_cycles.specs.Search.{IsPath, is_new, mark_at, new_count, node_at, settled}
use Rattle.dv_cycles.specs.declared.search.Mark.{Mark}
use Rattle.dv_cycles.specs.declared.search.Mark.TheVariants.{New, OnPath, Done}
use Rattle.dv_cycles.proofs.Same.{at_front, length_front}
use Rattle.dv_cycles.proofs.Marks.{new_count-set, on_path_within, settled_after, settled_before}

-- a mark that has no position of the component stays
settled_none : (component first : ℕ) (m : Mark) → ((position : ℕ) → m ≡ OnPath position → position < first) → m ≡ settled component first m
settled_none component first New below = refl
settled_none component first (Done earlier) below = refl
settled_none component first (OnPath position) below = sym (settled_before component first position (below position refl))

-- one position less of the path stays
settled_less : (component last : ℕ) (m : Mark) → (m ≡ OnPath last → ⊥) → settled component (last + 1) m ≡ settled component last m
settled_less component last New other = refl
settled_less component last (Done earlier) other = refl
settled_less component last (OnPath position) other =
    elim (cases_order position last) [
      | inl e ↦ absurd (other (ap OnPath e))
      | inr o ↦ elim o [
        | inl less ↦ settled_before component (last + 1) position (omega arith) ∙ sym (settled_before component last position less)
        | inr more ↦ settled_after component (last + 1) position (omega arith) ∙ sym (settled_after component last position (omega arith))
      ]
    ]

module _ (component : ℕ) (old : List Mark) (nodes : ℕ) (path : List ℕ) (h : IsPath (mark_at old) nodes (node_at path)) where
  -- at first the whole path stays
  pub settle_start : (v : ℕ) → mark_at old v ≡ settled component nodes (mark_at old v)
  settle_start v = settled_none component nodes (mark_at old v) (λ position e. (h.positioned v position e).on_path)

  -- one node more is done, the last one of what is left of the path
  module _ (now : List Mark) (size last v : ℕ) (next : last + 1 ≡ size) (on : size ≤ nodes) (there : node_at path last ≡ v)
      (before : (w : ℕ) → mark_at now w ≡ settled component size (mark_at old w)) where
    -- the marks before, with the last position by its own name
    marked : (w : ℕ) → mark_at now w ≡ settled component (last + 1) (mark_at old w)
    marked w = before w ∙ ap (λ n. settled component n (mark_at old w)) (sym next)

    -- the mark of the node at first
    was : mark_at old v ≡ OnPath last
    was = ap (mark_at old) (sym there) ∙ h.on_path last (omega arith)

    -- the mark of the node up to now
    is : mark_at now v ≡ OnPath last
    is = marked v ∙ ap (settled component (last + 1)) was ∙ settled_before component (last + 1) last (omega arith)

    -- the node has a mark
    pub settle_within : v < length now
    settle_within = on_path_within now v last is

    -- the marks afterwards
    pub settle_step : (w : ℕ) → mark_at (set now v (Done component)) w ≡ settled component last (mark_at old w)
    settle_step w =
        elim (cases_eq w v) [
          | inl e ↦ ap (mark_at (set now v (Done component))) e
              ∙ get_or-set_same now v (Done component) New settle_within
              ∙ sym (settled_after component last last (omega arith))
              ∙ ap (settled component last) (sym was)
              ∙ ap (λ x. settled component last (mark_at old x)) (sym e)
          | inr ne ↦ get_or-set_other now v w (Done component) New ne
              ∙ marked w
              ∙ settled_less component last (mark_at old w) (λ e. ne (sym (h.positioned w last e).there ∙ there))
        ]

    -- no node is new that was not, and the other way round
    pub settle_count : new_count (set now v (Done component)) ≡ new_count now
    settle_count =
        let none : ◌≡◌ {A = ℕ} (cond (is_new (mark_at now v)) 1 0) 0 = ap (λ m. cond (is_new m) 1 0) is in
        let sums : new_count (set now v (Done component)) + cond (is_new (mark_at now v)) 1 0 ≡ new_count now + 0 =
        new_count-set now v (Done component) settle_within in
        omega arith

-- the node read at the end of the front of a list
pub front_node : (old now : List ℕ) (n last x : ℕ) → now ≡ take n old → last < n → n ≤ length old → x ≡ get_or now last x
    → node_at old last ≡ x
front_node old now n last x e l le r =
    let long : n ≡ length now = length_front old now n e le in
    at_front old now n last 0 e l ∙ sym (get_or_read now last x (omega arith) r 0)

-- the front of a front
pub front_front : (old now less : List ℕ) (n m : ℕ) → now ≡ take n old → less ≡ take m now → m ≤ n → less ≡ take m old
front_front old now less n m e f l = f ∙ ap (take m) e ∙ take-take m n old l
