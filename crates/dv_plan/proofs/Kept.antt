-- The links of a key, and what they stand for.
use Rattle.std.proofs.Common.{◌≡◌, ℕ, ◌+◌, ◌*◌, ◌/◌, ◌<◌, Bool, true, false, not, ◌&&◌, ◌||◌, cond, nat_eq, List, [], ◌∷◌}
use Rattle.std.proofs.Common.{length, map, filter, get_or, inl, inr, refl, ap, sym, ◌∙◌, arith, zero-add}
use Rattle.std.specs.List.{list_any}
use Rattle.std.proofs.lemmas.Bool.{cases_Bool, eq-eqb, false≢true, ne_eqb}
use Rattle.std.proofs.lemmas.Bool.Decides.{nat_tests}
use Rattle.std.proofs.lemmas.Nat.{div-mul-add}
use Rattle.std.proofs.lemmas.List.FromFn.{get_or-map-range_with_len, length-map-range_with_len}
use Rattle.dv_conservative.specs.Links.{Link as Meant}
use Rattle.dv_partition.specs.Groups.{Grouping, owner_of}
use Rattle.dv_partition.specs.Steps.{with_key}
use Rattle.dv_plan.specs.Cuts.{owned_by}
use Rattle.dv_plan.specs.Keys.{lists_by, pair_key}
use Rattle.dv_share.specs.Links.{link_of}
use Rattle.dv_share.specs.declared.link.Link.{Link}

-- two numbers below a count as one
pub pair_test : (n a b p q : ℕ) → b < n → q < n → nat_eq (a * n + b) (p * n + q) ≡ (nat_eq a p && nat_eq b q)
pair_test n a b p q lb lq = elim (cases_Bool (nat_eq (a * n + b) (p * n + q))) [
  | inl t ↦
      let number : a * n + b ≡ p * n + q = grind (arith, nat_tests) in
      let first : a ≡ p = sym (div-mul-add a n b lb) ∙ ap (λ k. k / n) number ∙ div-mul-add p n q lq in
      let same : a * n ≡ p * n = ap (λ k. k * n) first in
      let second : b ≡ q = omega arith in
      rw (t, eq-eqb a p first, eq-eqb b q second) refl
  | inr f ↦ elim (cases_Bool (nat_eq a p)) [
    | inl e ↦ elim (cases_Bool (nat_eq b q)) [
      | inl g ↦
          let first : a ≡ p = grind (arith, nat_tests) in
          let second : b ≡ q = grind (arith, nat_tests) in
          let same : a * n ≡ p * n = ap (λ k. k * n) first in
          let number : a * n + b ≡ p * n + q = omega arith in
          absurd (false≢true (sym f ∙ eq-eqb (a * n + b) (p * n + q) number))
      | inr g ↦ rw (f, e, g) refl
    ]
    | inr e ↦ rw (f, e) refl
  ]
]

-- lists by a key, at one of them
pub list_at : (key : Link → ℕ) (count k : ℕ) (ls : List Link) → k < count → get_or (lists_by key count ls) k [] ≡ with_key k (map key ls) ls
list_at key count k ls lt = get_or-map-range_with_len (λ j. with_key j (map key ls) ls) 0 count k k [] lt (zero-add k)

pub lists_long : (key : Link → ℕ) (count : ℕ) (ls : List Link) → length (lists_by key count ls) ≡ count
lists_long key count ls = length-map-range_with_len (λ j. with_key j (map key ls) ls) 0 count

module _ (key : Link → ℕ) (k : ℕ) (test : Meant → Bool) (same : (l : Link) → nat_eq (key l) k ≡ test (link_of l)) where
  -- the links of a key are those that pass a test
  pub kept_links : (ls : List Link) → map link_of (with_key k (map key ls) ls) ≡ filter test (map link_of ls)
  kept_links [] = refl
  kept_links (l ∷ ls) =
      ap (λ b. map link_of (cond b (l ∷ with_key k (map key ls) ls) (with_key k (map key ls) ls))) (same l)
      ∙ by_test (test (link_of l)) (kept_links ls)
    where
      by_test : (t : Bool) → map link_of (with_key k (map key ls) ls) ≡ filter test (map link_of ls) →
          map link_of (cond t (l ∷ with_key k (map key ls) ls) (with_key k (map key ls) ls))
          ≡ cond t (link_of l ∷ filter test (map link_of ls)) (filter test (map link_of ls))
      by_test true e = ap (λ ms. link_of l ∷ ms) e
      by_test false e = e

  -- and there are some where one passes
  pub any_links : (ls : List Link) → not (nat_eq (length (with_key k (map key ls) ls)) 0) ≡ list_any test (map link_of ls)
  any_links [] = refl
  any_links (l ∷ ls) =
      ap (λ b. not (nat_eq (length (cond b (l ∷ with_key k (map key ls) ls) (with_key k (map key ls) ls))) 0)) (same l)
      ∙ by_test (test (link_of l)) (any_links ls)
    where
      by_test : (t : Bool) → not (nat_eq (length (with_key k (map key ls) ls)) 0) ≡ list_any test (map link_of ls) →
          not (nat_eq (length (cond t (l ∷ with_key k (map key ls) ls) (with_key k (map key ls) ls))) 0)
          ≡ (t || list_any test (map link_of ls))
      by_test true e = ap not (ne_eqb (length (l ∷ with_key k (map key ls) ls)) 0 (λ n. omega arith))
      by_test false e = e

-- the links between two processes
module _ (g : Grouping) (below : (k : ℕ) → owner_of g k < g.processes) (p q : ℕ) (lq : q < g.processes) where
  pub between_test : (l : Link) → nat_eq (pair_key g l) (p * g.processes + q) ≡ (owned_by g p l.from && owned_by g q l.to)
  between_test l = pair_test g.processes (owner_of g l.from) (owner_of g l.to) p q (below l.to) lq
