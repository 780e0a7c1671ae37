-- Sums over lists in which one item counts, and how often a port stands among the ports of components.
use Rattle.std.proofs.Common.{◌≡◌, ℕ, zero, suc, ◌+◌, ◌*◌, ◌<◌, Bool, true, false, cond, eqb, ltb, List, [], ◌∷◌}
use Rattle.std.proofs.Common.{map, get_or, refl, ap, sym, ◌∙◌, arith}
use Rattle.std.specs.Prelude.{◌&&◌}
use Rattle.std.specs.List.{range_with_len}
use Rattle.std.proofs.lemmas.Bool.{eqb-true}
use Rattle.std.proofs.lemmas.Bool.Decides.{nat_tests}
use Rattle.dv_syntax.specs.Trees.{AtomicTree}
use Rattle.dv_tree.specs.Instances.{Instance}
use Rattle.dv_flat.specs.Carried.{same_port}
use Rattle.dv_flat.specs.Ends.{port_at, ports_from}
use Rattle.dv_flat.specs.declared.link.ComponentPort.{ComponentPort}
use Rattle.dv_flat.proofs.Capped.{total_by, total_by-append}

-- one where a test holds
abbrev pub tick : Bool → ℕ
tick b = cond b 1 0

-- only what passes a test counts, and that is one item
one_picked : (b : Bool) (m n : ℕ) → (b ≡ true → m ≡ n) → tick b * m ≡ tick b * n
one_picked true m n same = ap (λ k. 1 * k) (same refl)
one_picked false m n same = omega arith

pub picked : {X : Type 0} (test : X → Bool) (y : X) → ((x : X) → test x ≡ true → x ≡ y) → (g : X → ℕ) (xs : List X) →
    total_by (λ x. tick (test x) * g x) xs ≡ total_by (λ x. tick (test x)) xs * g y
picked test y is g [] = omega arith
picked test y is g (x ∷ xs) =
    omega (arith, one_picked (test x) (g x) (g y) (λ e. ap g (is x e)), picked test y is g xs)

-- how often a number stands in a range
pub ticks_before : (a n p : ℕ) → p < a → total_by (λ q. tick (eqb q p)) (range_with_len a n) ≡ 0
ticks_before a zero p h = refl
ticks_before a (suc n) p h =
    let other : tick (eqb a p) ≡ 0 = grind (arith, nat_tests) in omega (arith, other, ticks_before (a + 1) n p (omega (arith, h)))

pub ticks_within : (a n p j : ℕ) → p ≡ a + j → total_by (λ q. tick (eqb q p)) (range_with_len a n) ≡ tick (ltb j n)
ticks_within a zero p j e = let none : tick (ltb j 0) ≡ 0 = grind (arith, nat_tests) in sym none
ticks_within a (suc n) p zero e =
    let here : tick (eqb a p) ≡ 1 = grind (arith, nat_tests) in
    let one : tick (ltb 0 (suc n)) ≡ 1 = grind (arith, nat_tests) in
    omega (arith, here, one, ticks_before (a + 1) n p (omega (arith, e)))
ticks_within a (suc n) p (suc j) e =
    let other : tick (eqb a p) ≡ 0 = grind (arith, nat_tests) in
    let same : tick (ltb (suc j) (suc n)) ≡ tick (ltb j n) = grind (arith, nat_tests) in
    omega (arith, other, same, ticks_within (a + 1) n p j (omega (arith, e)))

-- equal ports
both_true : (a b : Bool) → (a && b) ≡ true → (a ≡ true) × (b ≡ true)
both_true true b e = (refl, e)
both_true false b e = absurd (cc)

pub same_port-true : (x y : ComponentPort) → same_port x y ≡ true → x ≡ y
same_port-true x y e =
    let both = both_true (eqb x.component y.component) (eqb x.port y.port) e in
    ap (λ c. port_at c x.port) (eqb-true x.component y.component both.0) ∙ ap (port_at y.component) (eqb-true x.port y.port both.1)

-- how often a port stands among the ports of one component
ticks_mapped : (test : ComponentPort → Bool) (k : ℕ) (qs : List ℕ) →
    total_by (λ x. tick (test x)) (map (port_at k) qs) ≡ total_by (λ q. tick (test (port_at k q))) qs
ticks_mapped test k [] = refl
ticks_mapped test k (q ∷ qs) = ap (λ n. tick (test (port_at k q)) + n) (ticks_mapped test k qs)

of_component : (k c p : ℕ) (b : Bool) → eqb k c ≡ b → (qs : List ℕ) →
    total_by (λ q. tick (eqb k c && eqb q p)) qs ≡ tick b * total_by (λ q. tick (eqb q p)) qs
of_component k c p b e [] = omega arith
of_component k c p true e (q ∷ qs) =
    omega (arith, ap (λ t. tick (t && eqb q p)) e, of_component k c p true e qs)
of_component k c p false e (q ∷ qs) =
    omega (arith, ap (λ t. tick (t && eqb q p)) e, of_component k c p false e qs)

-- and among those of all from a number on
module _ (count : AtomicTree → ℕ) (c p : ℕ) where
  abbrev pub occurrences : List ComponentPort → ℕ
  occurrences ports = total_by (λ x. tick (same_port x (port_at c p))) ports

  occurrences_in : (k n : ℕ) (b : Bool) → eqb k c ≡ b →
      occurrences (map (port_at k) (range_with_len 0 n)) ≡ tick b * tick (ltb p n)
  occurrences_in k n b e =
      ticks_mapped (λ x. same_port x (port_at c p)) k (range_with_len 0 n)
      ∙ (of_component k c p b e (range_with_len 0 n) ∙ ap (λ m. tick b * m) (ticks_within 0 n p p (omega arith)))

  occurrences_before : (k : ℕ) (is : List Instance) → c < k → occurrences (ports_from k count is) ≡ 0
  occurrences_before k [] h = refl
  occurrences_before k (i ∷ is) h =
      let other : eqb k c ≡ false = grind (arith, nat_tests) in
      omega (
        arith,
        total_by-append (λ x. tick (same_port x (port_at c p))) (map (port_at k) (range_with_len 0 (count i.model)))
            (ports_from (suc k) count is),
        occurrences_in k (count i.model) false other,
        occurrences_before (suc k) is (omega (arith, h)),
      )

  occurrences_from : (k j : ℕ) (is : List Instance) → c ≡ k + j →
      occurrences (ports_from k count is) ≡ tick (ltb p (get_or (map (λ (i : Instance). count i.model) is) j 0))
  occurrences_from k j [] e = let none : tick (ltb p 0) ≡ 0 = grind (arith, nat_tests) in sym none
  occurrences_from k zero (i ∷ is) e =
      let here : eqb k c ≡ true = grind (arith, nat_tests) in
      omega (
        arith,
        total_by-append (λ x. tick (same_port x (port_at c p))) (map (port_at k) (range_with_len 0 (count i.model)))
            (ports_from (suc k) count is),
        occurrences_in k (count i.model) true here,
        occurrences_before (suc k) is (omega (arith, e)),
      )
  occurrences_from k (suc j) (i ∷ is) e =
      let other : eqb k c ≡ false = grind (arith, nat_tests) in
      omega (
        arith,
        total_by-append (λ x. tick (same_port x (port_at c p))) (map (port_at k) (range_with_len 0 (count i.model)))
            (ports_from (suc k) count is),
        occurrences_in k (count i.model) false other,
        occurrences_from (suc k) j is (omega (arith, e)),
      )

-- a port that there is stands once among all ports, and any other never
pub occurs_once : (count : AtomicTree → ℕ) (is : List Instance) (c p : ℕ) →
    total_by (λ x. tick (same_port x (port_at c p))) (ports_from 0 count is)
    ≡ tick (ltb p (get_or (map (λ (i : Instance). count i.model) is) c 0))
occurs_once count is c p = occurrences_from count c p 0 c is (omega arith)
