-- A walk through the bags with values does what a walk through the bags of all ports does, where an empty bag does nothing.
use Rattle.std.proofs.Common.{◌≡◌, inl, inr, ℕ, zero, suc, ◌+◌, ◌<◌, ◌≤◌, Bool, true, ◌&&◌, nat_le}
use Rattle.std.proofs.Common.{List, [], ◌∷◌, length, refl, sym, ap, ◌∙◌, subst, arith}
use Rattle.std.specs.List.{list_all, range_with_len}
use Rattle.std.specs.Prelude.{fold}
use Rattle.std.proofs.lemmas.Bool.{cases_eq, cases_lt, leb-true}
use Rattle.std.proofs.lemmas.List.{get_or_past}
use Rattle.std.proofs.lemmas.List.Sums.{AllPass-from_list_all}
use Rattle.dv_bag.specs.Arrivals.{AreFew}
use Rattle.dv_bag.specs.Bag.{Counts, bag_at, size, total}
use Rattle.dv_bag.specs.Bags.{AreWithin, RiseFrom, bag_in, by_port, from_port}
use Rattle.dv_bag.specs.Limits.{greatest_count}
use Rattle.dv_bag.specs.declared.bags.PortBag.{PortBag}
use Rattle.dv_bag.proofs.PortBags.{first_bag, later_bag}

-- no bag is of a port below the first
none_below : (p low : ℕ) (hs : List PortBag) → RiseFrom low hs → p < low → bag_in p hs ≡ []
none_below p low [] rise lt = refl
none_below p low (h ∷ hs) rise lt =
    later_bag p h hs (λ e. absurd (omega (arith, e, rise.0, lt))) ∙ none_below p (suc h.port) hs rise.1 (omega (arith, rise.0, lt))

later_than : (a b : ℕ) → a ≤ b → (a ≡ b → ⊥) → a + 1 ≤ b
later_than a b le apart = elim (cases_lt a b) [
  | inl lt ↦ omega (arith, lt)
  | inr ge ↦ absurd (apart (omega (arith, le, ge)))
]

-- from the last port to the first
module _ {T : Type 0} (put : ℕ → Counts → T → T) where
  abbrev pub through : ℕ → List Counts → T → T
  through port [] t = t
  through port (b ∷ bs) t = put port b (through (port + 1) bs t)

  abbrev pub through_held : List PortBag → T → T
  through_held [] t = t
  through_held (h ∷ hs) t = put h.port h.bag (through_held hs t)

  module _ (skip : (port : ℕ) (t : T) → put port [] t ≡ t) where
    through_from : (first ports end : ℕ) (bag : ℕ → Counts) (hs : List PortBag) (t : T) → end ≡ first + ports → RiseFrom first hs →
        AreWithin end hs → ((p : ℕ) → first ≤ p → bag p ≡ bag_in p hs) → through first (from_port first ports bag) t ≡ through_held hs t
    through_from first zero end bag [] t long rise within same = refl
    through_from first zero end bag (h ∷ hs) t long rise within same = absurd (omega (arith, long, rise.0, within.0))
    through_from first (suc ports) end bag [] t long rise within same =
        ap (λ (b : Counts). put first b (through (first + 1) (from_port (first + 1) ports bag) t)) (same first (omega arith))
        ∙ skip first (through (first + 1) (from_port (first + 1) ports bag) t)
        ∙ through_from (first + 1) ports end bag [] t (omega (arith, long)) tt within (λ p le. same p (omega (arith, le)))
    through_from first (suc ports) end bag (h ∷ hs) t long rise within same = elim (cases_eq first h.port) [
      | inl at ↦
          ap (λ (b : Counts). put first b (through (first + 1) (from_port (first + 1) ports bag) t))
          (same first (omega arith) ∙ first_bag first h hs (sym at))
          ∙ ap (put first h.bag)
          (through_from (first + 1) ports end bag hs t (omega (arith, long))
          (subst (λ (p : ℕ). RiseFrom p hs) (let next : suc h.port ≡ first + 1 = omega (arith, at) in next) rise.1) within.2
          (λ p le. same p (omega (arith, le)) ∙ later_bag p h hs (λ e. absurd (omega (arith, e, le, at)))))
          ∙ ap (λ (p : ℕ). put p h.bag (through_held hs t)) at
      | inr apart ↦
          let later = later_than first h.port rise.0 apart in
          ap (λ (b : Counts). put first b (through (first + 1) (from_port (first + 1) ports bag) t))
          (same first (omega arith) ∙ none_below first (first + 1) (h ∷ hs) (later, rise.1) (omega arith))
          ∙ skip first (through (first + 1) (from_port (first + 1) ports bag) t)
          ∙ through_from (first + 1) ports end bag (h ∷ hs) t (omega (arith, long)) (later, rise.1) within
          (λ p le. same p (omega (arith, le)))
    ]

    pub through_all : (ports : ℕ) (bags : List Counts) (hs : List PortBag) (t : T) → by_port ports hs ≡ bags → AreWithin ports hs →
        RiseFrom 0 hs → through 0 bags t ≡ through_held hs t
    through_all ports bags hs t are within rise =
        ap (λ (bs : List Counts). through 0 bs t) (sym are)
        ∙ through_from 0 ports ports (λ p. bag_in p hs) hs t (omega arith) rise within (λ p le. refl)

-- the same from the first port to the last
module _ {T : Type 0} (put : T → ℕ → Counts → T) (skip : (t : T) (port : ℕ) → put t port [] ≡ t) where
  abbrev before : ℕ → Counts → (T → T) → T → T
  before port b rest t = rest (put t port b)

  rest_skipped : (port : ℕ) (rest : T → T) → before port [] rest ≡ rest
  rest_skipped port rest = λ i t. rest (skip t port i)

  fold_bags : (first : ℕ) (bags : List Counts) (bag : ℕ → Counts) (t : T) → ((i : ℕ) → i < length bags → bag (first + i) ≡ bag_at bags i) →
      through before first bags (λ s. s) t ≡ fold (λ s port. put s port (bag port)) t (range_with_len first (length bags))
  fold_bags first [] bag t same = refl
  fold_bags first (b ∷ bs) bag t same =
      let here = sym (same 0 (omega arith)) ∙ ap bag (let e : first + 0 ≡ first = omega arith in e) in
      fold_bags (first + 1) bs bag (put t first b)
      (λ i lt. ap bag (let e : (first + 1) + i ≡ first + suc i = omega arith in e) ∙ same (suc i) (omega (arith, lt)))
      ∙ ap (λ (c : Counts). fold (λ s port. put s port (bag port)) (put t first c) (range_with_len (first + 1) (length bs))) here

  fold_held : (hs : List PortBag) (t : T) → through_held before hs (λ s. s) t ≡ fold (λ s (h : PortBag). put s h.port h.bag) t hs
  fold_held [] t = refl
  fold_held (h ∷ hs) t = fold_held hs (put t h.port h.bag)

  pub held_fold : (ports : ℕ) (bags : List Counts) (hs : List PortBag) (t : T) → by_port ports hs ≡ bags → AreWithin ports hs →
      RiseFrom 0 hs →
      fold (λ s (h : PortBag). put s h.port h.bag) t hs ≡ fold (λ s port. put s port (bag_at bags port)) t (range_with_len 0 (length bags))
  held_fold ports bags hs t are within rise =
      sym (fold_held hs t)
      ∙ ap (λ (go : T → T). go t) (sym (through_all before rest_skipped ports bags hs (λ s. s) are within rise))
      ∙ fold_bags 0 bags (bag_at bags) t (λ i lt. ap (bag_at bags) (let e : 0 + i ≡ i = omega arith in e))

-- a test of all bags is one of those with values
module _ (test : Counts → Bool) (none : test [] ≡ true) where
  abbrev both : ℕ → Counts → Bool → Bool
  both port b rest = test b && rest

  test_skipped : (port : ℕ) (rest : Bool) → both port [] rest ≡ rest
  test_skipped port rest = ap (λ (t : Bool). t && rest) none

  test_bags : (port : ℕ) (bags : List Counts) → through both port bags true ≡ list_all test bags
  test_bags port [] = refl
  test_bags port (b ∷ bs) = ap (λ (rest : Bool). test b && rest) (test_bags (port + 1) bs)

  test_held : (hs : List PortBag) → through_held both hs true ≡ list_all (λ (h : PortBag). test h.bag) hs
  test_held [] = refl
  test_held (h ∷ hs) = ap (λ (rest : Bool). test h.bag && rest) (test_held hs)

  pub held_pass : (ports : ℕ) (bags : List Counts) (hs : List PortBag) → by_port ports hs ≡ bags → AreWithin ports hs → RiseFrom 0 hs →
      list_all (λ (h : PortBag). test h.bag) hs ≡ list_all test bags
  held_pass ports bags hs are within rise =
      sym (test_held hs) ∙ sym (through_all both test_skipped ports bags hs true are within rise) ∙ test_bags 0 bags

-- bags that pass the test of their sizes have few values each
pub few_values : (bags : List Counts) → list_all (λ b. nat_le (size b) greatest_count) bags ≡ true → AreFew bags
few_values bags pass port = elim (cases_lt port (length bags)) [
  | inl lt ↦
      let all = AllPass-from_list_all (λ b. nat_le (size b) greatest_count) bags pass in
      let small = leb-true (size (bag_at bags port)) greatest_count (all port [] lt) in
      omega (arith, small)
  | inr ge ↦ let none = ap total (get_or_past bags port [] ge) in omega (arith, none)
]
