-- The marks of nodes before and after a component is done.
use Rattle.std.proofs.Common.{◌≡◌, ℕ, ◌+◌, ◌<◌, ◌≤◌, ◌⊎◌, inl, inr, nat_lt, cond, List, length, set, refl, sym, subst, ap, arith, ◌∙◌}
use Rattle.std.proofs.lemmas.Bool.{cases_lt, cond-false, cond-true, le-ltb, lt-ltb}
use Rattle.std.proofs.lemmas.List.{get_or_past}
use Rattle.std.proofs.lemmas.List.Sums.{sum_by-set}
use Rattle.dv_cycles.specs.Search.{IsDoneBy, IsHeld, is_new, mark_at, new_count, settled}
use Rattle.dv_cycles.specs.declared.search.Mark.{Mark}
use Rattle.dv_cycles.specs.declared.search.Mark.TheVariants.{New, OnPath, Done}

-- one mark changes the count of new nodes by that node alone
pub new_count-set : (marks : List Mark) (v : ℕ) (m : Mark) → v < length marks
    → new_count (set marks v m) + cond (is_new (mark_at marks v)) 1 0 ≡ new_count marks + cond (is_new m) 1 0
new_count-set marks v m l = sum_by-set (λ x. cond (is_new x) 1 0) marks v m New l

-- a visited node is new no more
pub new_count_visited : (marks : List Mark) (v position : ℕ) → v < length marks → mark_at marks v ≡ New
    → new_count (set marks v (OnPath position)) + 1 ≡ new_count marks
new_count_visited marks v position l new =
    let was : ◌≡◌ {A = ℕ} (cond (is_new (mark_at marks v)) 1 0) 1 = ap (λ m. cond (is_new m) 1 0) new in
    let sums : new_count (set marks v (OnPath position)) + cond (is_new (mark_at marks v)) 1 0 ≡ new_count marks + 0 =
    new_count-set marks v (OnPath position) l in
    omega arith

-- a node that is not new is a node
pub on_path_within : (marks : List Mark) (v position : ℕ) → mark_at marks v ≡ OnPath position → v < length marks
on_path_within marks v position h =
    elim (cases_lt v (length marks)) [
      | inl l ↦ l
      | inr g ↦ let e : mark_at marks v ≡ New = get_or_past marks v New g in absurd (cc)
    ]

-- what is held from a position on is held from an earlier one on
pub held_weaker : (m : Mark) (a b : ℕ) → a ≤ b → IsHeld b m → IsHeld a m
held_weaker New a b l h = h
held_weaker (OnPath position) a b l h = omega arith
held_weaker (Done component) a b l h = tt

-- a node done by then has a component
pub component_by : (m : Mark) (component : ℕ) → IsDoneBy component m → (earlier : ℕ) × (m ≡ Done earlier) × (earlier ≤ component)
component_by New component h = absurd h
component_by (OnPath position) component h = absurd h
component_by (Done earlier) component h = (earlier, refl, h)

-- what is done by a component is done by a later one
pub done_by_weaker : (m : Mark) (a b : ℕ) → a ≤ b → IsDoneBy a m → IsDoneBy b m
done_by_weaker New a b l h = h
done_by_weaker (OnPath position) a b l h = h
done_by_weaker (Done earlier) a b l h = omega arith

-- a node that is neither new nor on the path has a component
pub component_of : (m : Mark) → (m ≡ New → ⊥) → ((position : ℕ) → m ≡ OnPath position → ⊥) → (component : ℕ) × (m ≡ Done component)
component_of New reached off = absurd (reached refl)
component_of (OnPath position) reached off = absurd (off position refl)
component_of (Done component) reached off = (component, refl)

module _ (component first : ℕ) where
  -- an earlier position stays
  pub settled_before : (position : ℕ) → position < first → settled component first (OnPath position) ≡ OnPath position
  settled_before position l = cond-true (nat_lt position first) (OnPath position) (Done component) (lt-ltb position first l)

  -- a later position is done
  pub settled_after : (position : ℕ) → first ≤ position → settled component first (OnPath position) ≡ Done component
  settled_after position l = cond-false (nat_lt position first) (OnPath position) (Done component) (le-ltb position first l)

  -- what stays on the path
  pub settled_on_path : (m : Mark) (position : ℕ) → settled component first m ≡ OnPath position → (m ≡ OnPath position) × (position < first)
  settled_on_path New position h = absurd (cc)
  settled_on_path (Done earlier) position h = absurd (cc)
  settled_on_path (OnPath index) position h =
      elim (cases_lt index first) [
        | inl l ↦ let e : OnPath index ≡ OnPath position = sym (settled_before index l) ∙ h in
            let f : index ≡ position = cc in (e, subst (λ x. x < first) f l)
        | inr g ↦ let e : Done component ≡ OnPath position = sym (settled_after index g) ∙ h in absurd (cc)
      ]

  -- what is done, and what was done before
  pub settled_done : (m : Mark) (number : ℕ) → settled component first m ≡ Done number
      → (m ≡ Done number) ⊎ ((position : ℕ) × (m ≡ OnPath position) × (first ≤ position) × (component ≡ number))
  settled_done New number h = absurd (cc)
  settled_done (Done earlier) number h = inl h
  settled_done (OnPath index) number h =
      elim (cases_lt index first) [
        | inl l ↦ let e : OnPath index ≡ Done number = sym (settled_before index l) ∙ h in absurd (cc)
        | inr g ↦ let e : Done component ≡ Done number = sym (settled_after index g) ∙ h in
            let f : component ≡ number = cc in inr (index, refl, g, f)
      ]

  -- what was held still is, or is done
  pub settled_held : (m : Mark) (a : ℕ) → IsHeld a m → IsHeld a (settled component first m)
  settled_held New a h = h
  settled_held (Done earlier) a h = tt
  settled_held (OnPath index) a h =
      elim (cases_lt index first) [
        | inl l ↦ subst (IsHeld a) (sym (settled_before index l)) h
        | inr g ↦ subst (IsHeld a) (sym (settled_after index g)) tt
      ]

  -- a component that was done stays so
  pub settled_done_by : (m : Mark) (number : ℕ) → IsDoneBy number m → IsDoneBy number (settled component first m)
  settled_done_by New number h = h
  settled_done_by (OnPath index) number h = absurd h
  settled_done_by (Done earlier) number h = h

  -- what is held from the first position on is done now
  pub held_done_by : (m : Mark) → IsHeld first m → ((earlier : ℕ) → m ≡ Done earlier → earlier ≤ component)
      → IsDoneBy component (settled component first m)
  held_done_by New h below = h
  held_done_by (Done earlier) h below = below earlier refl
  held_done_by (OnPath index) h below = subst (IsDoneBy component) (sym (settled_after index h)) (omega arith)
