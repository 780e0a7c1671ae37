-- Bags by port, as a list of those with values: where the bag of a port stands, and what an edit does to the bag of each port.
use Rattle.std.proofs.Common.{◌≡◌, inl, inr, ℕ, zero, suc, ◌+◌, ◌-◌, ◌<◌, ◌≤◌, Bool, false, cond, nat_eq}
use Rattle.std.proofs.Common.{List, [], ◌∷◌, Result, Ok, Err, IfOk, IfErr, OnErr, OnOk, ℤ, length, get_or, set, replicate}
use Rattle.std.proofs.Common.{refl, sym, ap, ◌∙◌, subst, arith}
use Rattle.std.specs.List.{insert, refill}
use Rattle.std.specs.List.Sorted.{IsBinarySearchResult, IsSearchInRange}
use Rattle.std.specs.Ordering.{nat_cmp, ordering_index}
use Rattle.std.specs.declared.cmp.Ordering.TheVariants.{Less}
use Rattle.std.proofs.lemmas.Bool.{cases_lt, eq-eqb, eqb-false, ne_eqb}
use Rattle.std.proofs.lemmas.Cmp.{ranked}
use Rattle.std.proofs.lemmas.List.{get_or_default, get_or_past}
use Rattle.std.proofs.lemmas.List.Sorted.{IsNonDecreasingBy-from_default}
use Rattle.dv_bag.specs.Bag.{Counts, bag_at, capped, size, size_of_all, total, total_of_all, union, with_copies}
use Rattle.dv_bag.specs.Bags.{AreWithin, GoesInAt, RiseFrom, StandsAt, bag_in, by_port, from_port}
use Rattle.dv_bag.specs.declared.bags.PortBag.{PortBag}
use Rattle.dv_bag.proofs.Monoid.{total_union, total_with}
use Rattle.dv_bag.proofs.Pairs.{refill-set}

abbrev port_bag : ℕ → Counts → PortBag
port_bag port bag = record { port = port; bag = bag }

-- the list of the bags of so many ports
pub from_port_length : (first ports : ℕ) (bag : ℕ → Counts) → length (from_port first ports bag) ≡ ports
from_port_length first zero bag = refl
from_port_length first (suc ports) bag = let rest = from_port_length (first + 1) ports bag in omega arith

bag_from : (first ports i port : ℕ) (bag : ℕ → Counts) → i < ports → port ≡ first + i → bag_at (from_port first ports bag) i ≡ bag port
bag_from first zero i port bag lt e = absurd (omega arith)
bag_from first (suc ports) zero port bag lt e = ap bag (let same : first ≡ port = omega arith in same)
bag_from first (suc ports) (suc i) port bag lt e = bag_from (first + 1) ports i port bag (omega arith) (omega arith)

set_from : (first ports i port : ℕ) (old new : ℕ → Counts) → i < ports → port ≡ first + i →
    ((p : ℕ) → (p ≡ port → ⊥) → new p ≡ old p) → from_port first ports new ≡ set (from_port first ports old) i (new port)
set_from first zero i port old new lt e same = absurd (omega arith)
set_from first (suc ports) zero port old new lt e same =
    let here : first ≡ port = omega arith in
    ap (λ (p : ℕ). new p ∷ from_port (first + 1) ports new) here
    ∙ ap (λ (bs : List Counts). new port ∷ bs) (same_from (first + 1) ports old new (λ p le. same p (λ k. absurd (omega arith))))
  where
    same_from : (first ports : ℕ) (old new : ℕ → Counts) → ((p : ℕ) → first ≤ p → new p ≡ old p) →
        from_port first ports new ≡ from_port first ports old
    same_from first zero old new same = refl
    same_from first (suc ports) old new same =
        ap (λ (b : Counts). b ∷ from_port (first + 1) ports new) (same first (omega arith))
        ∙ ap (λ (bs : List Counts). old first ∷ bs) (same_from (first + 1) ports old new (λ p le. same p (omega arith)))
set_from first (suc ports) (suc i) port old new lt e same =
    ap (λ (b : Counts). b ∷ from_port (first + 1) ports new) (same first (λ k. absurd (omega arith)))
    ∙ ap (λ (bs : List Counts). old first ∷ bs) (set_from (first + 1) ports i port old new (omega arith) (omega arith) same)

pub nothing_from : (first ports : ℕ) → from_port first ports (λ p. []) ≡ replicate ports []
nothing_from first zero = refl
nothing_from first (suc ports) = ap (λ (bs : List Counts). [] ∷ bs) (nothing_from (first + 1) ports)

-- the first bag is that of the port, or another one
pub first_bag : (p : ℕ) (h : PortBag) (hs : List PortBag) → h.port ≡ p → bag_in p (h ∷ hs) ≡ h.bag
first_bag p h hs e = ap (λ (t : Bool). cond t h.bag (bag_in p hs)) (eq-eqb h.port p e)

pub later_bag : (p : ℕ) (h : PortBag) (hs : List PortBag) → (h.port ≡ p → ⊥) → bag_in p (h ∷ hs) ≡ bag_in p hs
later_bag p h hs apart = ap (λ (t : Bool). cond t h.bag (bag_in p hs)) (ne_eqb h.port p apart)

-- a bag that is held is of one of the ports, and has values
pub port_below : (ports i : ℕ) (hs : List PortBag) (d : PortBag) → AreWithin ports hs → i < length hs → (get_or hs i d).port < ports
port_below ports i [] d within lt = absurd (omega arith)
port_below ports zero (h ∷ hs) d within lt = within.0
port_below ports (suc i) (h ∷ hs) d within lt = port_below ports i hs d within.2 (omega (arith, lt))

pub values_held : (ports i : ℕ) (hs : List PortBag) (d : PortBag) → AreWithin ports hs → i < length hs → 0 < total (get_or hs i d).bag
values_held ports i [] d within lt = absurd (omega arith)
values_held ports zero (h ∷ hs) d within lt = within.1
values_held ports (suc i) (h ∷ hs) d within lt = values_held ports i hs d within.2 (omega (arith, lt))

-- the bag of each port, wherever it is asked for
nothing_past : (ports p : ℕ) (hs : List PortBag) → AreWithin ports hs → ports ≤ p → bag_in p hs ≡ []
nothing_past ports p [] within past = refl
nothing_past ports p (h ∷ hs) within past =
    later_bag p h hs (λ e. absurd (omega (arith, within.0, past, e))) ∙ nothing_past ports p hs within.2 past

pub bag_of_port : (ports p : ℕ) (hs : List PortBag) → AreWithin ports hs → bag_at (by_port ports hs) p ≡ bag_in p hs
bag_of_port ports p hs within = elim (cases_lt p ports) [
  | inl lt ↦ bag_from 0 ports p p (λ q. bag_in q hs) lt (omega arith)
  | inr ge ↦
      let long = from_port_length 0 ports (λ q. bag_in q hs) in
      get_or_past (by_port ports hs) p [] (omega arith) ∙ sym (nothing_past ports p hs within ge)
]

-- another bag at one port
edited : (ports port : ℕ) (old new : List PortBag) (b : Counts) → port < ports → bag_in port new ≡ b →
    ((p : ℕ) → (p ≡ port → ⊥) → bag_in p new ≡ bag_in p old) → by_port ports new ≡ set (by_port ports old) port b
edited ports port old new b lt here others =
    set_from 0 ports port port (λ p. bag_in p old) (λ p. bag_in p new) lt (omega arith) others
    ∙ ap (set (by_port ports old) port) here

-- ports of a list that rises
port_at : (low i : ℕ) (hs : List PortBag) (d : PortBag) → RiseFrom low hs → i < length hs → low ≤ (get_or hs i d).port
port_at low i [] d rise lt = absurd (omega arith)
port_at low zero (h ∷ hs) d rise lt = rise.0
port_at low (suc i) (h ∷ hs) d rise lt = let later = port_at (suc h.port) i hs d rise.1 (omega (arith, lt)) in omega (arith, later, rise.0)

pub ports_rise : (low i j : ℕ) (hs : List PortBag) (d : PortBag) → RiseFrom low hs → i < j → j < length hs →
    (get_or hs i d).port < (get_or hs j d).port
ports_rise low i j [] d rise lt within = absurd (omega arith)
ports_rise low i zero (h ∷ hs) d rise lt within = absurd (omega arith)
ports_rise low zero (suc j) (h ∷ hs) d rise lt within =
    let later = port_at (suc h.port) j hs d rise.1 (omega (arith, within)) in omega (arith, later)
ports_rise low (suc i) (suc j) (h ∷ hs) d rise lt within =
    ports_rise (suc h.port) i j hs d rise.1 (omega (arith, lt)) (omega (arith, within))

-- a binary search ends at the bag of the port, or at the gap for it
index_rises : (p q r : ℕ) → p < q → ordering_index (nat_cmp p r) ≤ ordering_index (nat_cmp q r)
index_rises p q r lt = grind (arith, ranked p r _ refl, ranked q r _ refl)

pub searched : (p : ℕ) (hs : List PortBag) (r : Result ℕ ℕ) → RiseFrom 0 hs → IsSearchInRange r (length hs) →
    IsBinarySearchResult (λ (h : PortBag). nat_cmp h.port p) hs r →
    record { found : IfOk r (λ index. StandsAt p index hs); absent : IfErr r (λ index. GoesInAt p index hs) }
searched p hs (Ok at) rise within equal = record {
  found = (within, λ d. ranked (get_or hs at d).port p _ (sym (equal d)));
  absent = tt;
}
searched p hs (Err at) rise within parted =
    let none = port_bag 0 [] in
    let apart = parted (IsNonDecreasingBy-from_default (λ (h : PortBag). ordering_index (nat_cmp h.port p)) hs none (λ i j le lt.
    elim (cases_lt i j) [
      | inl less ↦ index_rises _ _ p (ports_rise 0 i j hs none rise less lt)
      | inr more ↦
          let same : ordering_index (nat_cmp (get_or hs i none).port p) ≡ ordering_index (nat_cmp (get_or hs j none).port p)
          = ap (λ (k : ℕ). ordering_index (nat_cmp (get_or hs k none).port p)) (omega arith) in omega arith
    ])) in
    record {
      found = tt;
      absent = (
        within,
        λ k d le lt. ranked (get_or hs k d).port p _ (sym (apart.0 k d le lt)),
        λ k d le lt. ranked (get_or hs k d).port p _ (sym (apart.1 k d le lt)),
      );
    }

-- a port above the last one goes in behind it
pub behind_last : (p : ℕ) (hs : List PortBag) (d : PortBag) → RiseFrom 0 hs → 1 ≤ length hs →
    nat_cmp (get_or hs (length hs - 1) d).port p ≡ Less → GoesInAt p (length hs) hs
behind_last p hs d rise some order =
    let less : (get_or hs (length hs - 1) d).port < p = ranked (get_or hs (length hs - 1) d).port p Less (sym order) in (
      omega arith,
      λ k e le lt.
          let same = ap (λ (h : PortBag). h.port) (get_or_default hs k e d lt) in
          elim (cases_lt k (length hs - 1)) [
            | inl early ↦
                let before = ports_rise 0 k (length hs - 1) hs d rise early (omega (arith, some)) in
                omega (arith, before, less, same)
            | inr late ↦
                let last : length hs - 1 ≡ k = omega (arith, lt, late, some) in
                let here = ap (λ (i : ℕ). (get_or hs i d).port) last in
                omega (arith, less, here, same)
          ],
      λ k e le lt. absurd (omega (arith, le, lt)),
    )

-- the bag that stands at an index, or that of a port for which none stands
pub standing_bag : (low p i : ℕ) (hs : List PortBag) (d : PortBag) → RiseFrom low hs → StandsAt p i hs →
    bag_in p hs ≡ (get_or hs i d).bag
standing_bag low p i [] d rise at = absurd (omega (arith, at.0))
standing_bag low p zero (h ∷ hs) d rise at = first_bag p h hs (at.1 h)
standing_bag low p (suc i) (h ∷ hs) d rise at =
    let later = port_at (suc h.port) i hs h rise.1 (omega (arith, at.0)) in
    let same = at.1 h in
    later_bag p h hs (λ e. absurd (omega (arith, e, later, same)))
    ∙ standing_bag (suc h.port) p i hs d rise.1 (omega (arith, at.0), λ d. at.1 d)

behind : (p i : ℕ) (h : PortBag) (hs : List PortBag) → GoesInAt p (suc i) (h ∷ hs) → (h.port < p) × GoesInAt p i hs
behind p i h hs at = (
  at.1 0 h (omega arith) (omega arith),
  (
    omega (arith, at.0),
    λ k d le lt. at.1 (suc k) d (omega arith) (omega (arith, lt)),
    λ k d le lt. at.2 (suc k) d (omega (arith, le)) (omega (arith, lt)),
  ),
)

pub absent_bag : (p i : ℕ) (hs : List PortBag) → GoesInAt p i hs → bag_in p hs ≡ []
absent_bag p i [] at = refl
absent_bag p zero (h ∷ hs) at =
    let above = at.2 0 h (omega arith) (omega arith) in
    later_bag p h hs (λ e. absurd (omega (arith, e, above)))
    ∙ absent_bag p zero hs (
      omega arith,
      λ k d le lt. absurd (omega arith),
      λ k d le lt. at.2 (suc k) d (omega arith) (omega (arith, lt)),
    )
absent_bag p (suc i) (h ∷ hs) at =
    let rest = behind p i h hs at in
    later_bag p h hs (λ e. absurd (omega (arith, e, rest.0))) ∙ absent_bag p i hs rest.1

-- another bag at the index of a port
module _ (p : ℕ) (b : Counts) where
  set_here : (low i : ℕ) (hs : List PortBag) → RiseFrom low hs → StandsAt p i hs → bag_in p (set hs i (port_bag p b)) ≡ b
  set_here low i [] rise at = absurd (omega (arith, at.0))
  set_here low zero (h ∷ hs) rise at = first_bag p (port_bag p b) hs refl
  set_here low (suc i) (h ∷ hs) rise at =
      let later = port_at (suc h.port) i hs h rise.1 (omega (arith, at.0)) in
      let same = at.1 h in
      later_bag p h (set hs i (port_bag p b)) (λ e. absurd (omega (arith, e, later, same)))
      ∙ set_here (suc h.port) i hs rise.1 (omega (arith, at.0), λ d. at.1 d)

  set_elsewhere : (q i : ℕ) (hs : List PortBag) → (q ≡ p → ⊥) → StandsAt p i hs → bag_in q (set hs i (port_bag p b)) ≡ bag_in q hs
  set_elsewhere q i [] apart at = absurd (omega (arith, at.0))
  set_elsewhere q zero (h ∷ hs) apart at =
      later_bag q (port_bag p b) hs (λ e. apart (sym e)) ∙ sym (later_bag q h hs (λ e. apart (sym e ∙ at.1 h)))
  set_elsewhere q (suc i) (h ∷ hs) apart at =
      ap (λ (c : Counts). cond (nat_eq h.port q) h.bag c) (set_elsewhere q i hs apart (omega (arith, at.0), λ d. at.1 d))

  set_rises : (low i : ℕ) (hs : List PortBag) → RiseFrom low hs → StandsAt p i hs → RiseFrom low (set hs i (port_bag p b))
  set_rises low i [] rise at = tt
  set_rises low zero (h ∷ hs) rise at = subst (λ (q : ℕ). (low ≤ q) × RiseFrom (suc q) hs) (at.1 h) rise
  set_rises low (suc i) (h ∷ hs) rise at = (rise.0, set_rises (suc h.port) i hs rise.1 (omega (arith, at.0), λ d. at.1 d))

  set_within : (ports i : ℕ) (hs : List PortBag) → AreWithin ports hs → p < ports → 0 < total b → AreWithin ports (set hs i (port_bag p b))
  set_within ports i [] within lt some = tt
  set_within ports zero (h ∷ hs) within lt some = (lt, some, within.2)
  set_within ports (suc i) (h ∷ hs) within lt some = (within.0, within.1, set_within ports i hs within.2 lt some)

  -- one bag more, for a port that has none
  put_here : (i : ℕ) (hs : List PortBag) → GoesInAt p i hs → bag_in p (insert hs i (port_bag p b)) ≡ b
  put_here zero hs at = first_bag p (port_bag p b) hs refl
  put_here (suc i) [] at = absurd (omega (arith, at.0))
  put_here (suc i) (h ∷ hs) at =
      let rest = behind p i h hs at in
      later_bag p h (insert hs i (port_bag p b)) (λ e. absurd (omega (arith, e, rest.0))) ∙ put_here i hs rest.1

  put_elsewhere : (q i : ℕ) (hs : List PortBag) → (q ≡ p → ⊥) → i ≤ length hs → bag_in q (insert hs i (port_bag p b)) ≡ bag_in q hs
  put_elsewhere q zero hs apart within = later_bag q (port_bag p b) hs (λ e. apart (sym e))
  put_elsewhere q (suc i) [] apart within = absurd (omega arith)
  put_elsewhere q (suc i) (h ∷ hs) apart within =
      ap (λ (c : Counts). cond (nat_eq h.port q) h.bag c) (put_elsewhere q i hs apart (omega (arith, within)))

  put_rises : (low i : ℕ) (hs : List PortBag) → RiseFrom low hs → low ≤ p → GoesInAt p i hs → RiseFrom low (insert hs i (port_bag p b))
  put_rises low zero [] rise le at = (le, tt)
  put_rises low zero (h ∷ hs) rise le at = let above = at.2 0 h (omega arith) (omega arith) in (le, (omega (arith, above), rise.1))
  put_rises low (suc i) [] rise le at = absurd (omega (arith, at.0))
  put_rises low (suc i) (h ∷ hs) rise le at =
      let rest = behind p i h hs at in
      (rise.0, put_rises (suc h.port) i hs rise.1 (omega (arith, rest.0)) rest.1)

  put_within : (ports i : ℕ) (hs : List PortBag) → AreWithin ports hs → p < ports → 0 < total b →
      AreWithin ports (insert hs i (port_bag p b))
  put_within ports zero hs within lt some = (lt, some, within)
  put_within ports (suc i) [] within lt some = (lt, some, tt)
  put_within ports (suc i) (h ∷ hs) within lt some = (within.0, within.1, put_within ports i hs within.2 lt some)

-- what the code of an edit leaves
module _ (ports port : ℕ) (hs : List PortBag) (within : AreWithin ports hs) (rise : RiseFrom 0 hs) (lt : port < ports) where
  -- the bag that stands at an index, read from a copy of the list
  module _ (index : ℕ) (xs : List PortBag) (d : PortBag) (seen : xs ≡ hs) (at : StandsAt port index hs) where
    abbrev with_bag : Counts → List PortBag
    with_bag b = refill (length hs) hs (set xs index (port_bag (get_or xs index d).port b))

    plain : (b : Counts) → with_bag b ≡ set hs index (port_bag port b)
    plain b =
        ap (λ (ys : List PortBag). refill (length hs) hs (set ys index (port_bag (get_or ys index d).port b))) seen
        ∙ ap (λ (p : ℕ). refill (length hs) hs (set hs index (port_bag p b))) (at.1 d)
        ∙ refill-set hs index (port_bag port b)

    pub old_bag : (get_or xs index d).bag ≡ bag_at (by_port ports hs) port
    old_bag =
        ap (λ (ys : List PortBag). (get_or ys index d).bag) seen ∙ sym (standing_bag 0 port index hs d rise at)
        ∙ sym (bag_of_port ports port hs within)

    pub changed : (b : Counts) → by_port ports (with_bag b) ≡ set (by_port ports hs) port b
    changed b =
        ap (by_port ports) (plain b)
        ∙ edited ports port hs (set hs index (port_bag port b)) b lt (set_here port b 0 index hs rise at)
        (λ p apart. set_elsewhere port b p index hs apart at)

    pub changed_well : (b : Counts) → 0 < total b → AreWithin ports (with_bag b) × RiseFrom 0 (with_bag b)
    changed_well b some =
        subst (λ (ys : List PortBag). AreWithin ports ys × RiseFrom 0 ys) (sym (plain b)) (
          set_within port b ports index hs within lt some,
          set_rises port b 0 index hs rise at,
        )

    -- also where an edit failed, which leaves the bag
    pub kept_well : {E : Type 0} (b : Counts) (edit : Counts → Counts) → ((c : Counts) → 0 < total c → 0 < total (edit c)) →
        (r : Result (Unit {0}) E) → OnOk r (b ≡ edit (get_or xs index d).bag) → OnErr r (b ≡ (get_or xs index d).bag) →
        AreWithin ports (with_bag b) × RiseFrom 0 (with_bag b)
    kept_well b edit more r ok err = changed_well b (by_result r ok err)
      where
        there : 0 < total (get_or xs index d).bag
        there = subst (λ (ys : List PortBag). 0 < total (get_or ys index d).bag) (sym seen) (values_held ports index hs d within at.0)

        by_result : {E : Type 0} (r : Result (Unit {0}) E) → OnOk r (b ≡ edit (get_or xs index d).bag) →
            OnErr r (b ≡ (get_or xs index d).bag) → 0 < total b
        by_result (Ok x) ok err = subst (λ (c : Counts). 0 < total c) (sym ok) (more (get_or xs index d).bag there)
        by_result (Err e) ok err = subst (λ (c : Counts). 0 < total c) (sym err) there

  module _ (index : ℕ) (new : List PortBag) (b : Counts) (at : GoesInAt port index hs) (is : new ≡ insert hs index (port_bag port b)) where
    pub none_before : bag_at (by_port ports hs) port ≡ []
    none_before = bag_of_port ports port hs within ∙ absent_bag port index hs at

    pub added : by_port ports new ≡ set (by_port ports hs) port b
    added =
        ap (by_port ports) is
        ∙ edited ports port hs (insert hs index (port_bag port b)) b lt (put_here port b index hs at)
        (λ p apart. put_elsewhere port b p index hs apart at.0)

    pub added_well : 0 < total b → AreWithin ports new × RiseFrom 0 new
    added_well some =
        subst (λ (ys : List PortBag). AreWithin ports ys × RiseFrom 0 ys) (sym is) (
          put_within port b ports index hs within lt some,
          put_rises port b 0 index hs rise (omega arith) at,
        )

-- a bag that got values has some
pub some_with : (v : ℤ) (n : ℕ) (b : Counts) → 0 < total b → 0 < total (with_copies v n b)
some_with v n b some = let sum = total_with v n b in omega (arith, sum.0, some)

pub some_new : (v : ℤ) (n : ℕ) (b : Counts) → 0 < n → 0 < total (with_copies v n b)
some_new v n b some = let sum = total_with v n b in omega (arith, sum.0, some)

pub some_united : (a b : Counts) → 0 < total a → 0 < total (union a b)
some_united a b some = let sum = total_union a b in omega (arith, sum.0, some)

pub some_values : (b : Counts) (none : Bool) → none ≡ nat_eq (size b) 0 → none ≡ false → 0 < total b
some_values b none is some = let apart = eqb-false (size b) 0 (sym is ∙ some) in elim (cases_lt 0 (total b)) [
  | inl lt ↦ lt
  | inr ge ↦ absurd (apart (omega (arith, ge)))
]

pub some_other : (a b : Counts) → 0 < total b → 0 < total (union a b)
some_other a b some = let sum = total_union a b in omega (arith, sum.0, some)

-- there is no value where no bag is held, and there is one where one is
none_in_all : (first ports : ℕ) → total_of_all (from_port first ports (λ p. [])) ≡ 0
none_in_all first zero = refl
none_in_all first (suc ports) = let rest = none_in_all (first + 1) ports in omega arith

some_in_all : (bags : List Counts) (i : ℕ) → total (bag_at bags i) ≤ total_of_all bags
some_in_all [] i = omega arith
some_in_all (b ∷ bs) zero = omega arith
some_in_all (b ∷ bs) (suc i) = let rest = some_in_all bs i in omega arith

pub none_or_some : (ports : ℕ) (hs : List PortBag) → AreWithin ports hs →
    nat_eq (length hs) 0 ≡ nat_eq (size_of_all (by_port ports hs)) 0
none_or_some ports [] within = sym (ap (λ (n : ℕ). nat_eq (capped n) 0) (none_in_all 0 ports))
none_or_some ports (h ∷ hs) within =
    let there = some_in_all (by_port ports (h ∷ hs)) h.port in
    let bag = bag_of_port ports h.port (h ∷ hs) within ∙ first_bag h.port h hs refl in
    let some : 0 < total (bag_at (by_port ports (h ∷ hs)) h.port) = subst (λ (c : Counts). 0 < total c) (sym bag) within.1 in
    ne_eqb (length (h ∷ hs)) 0 (λ e. absurd (omega arith))
    ∙ sym (ne_eqb (size_of_all (by_port ports (h ∷ hs))) 0 (λ e. absurd (omega (arith, there, some))))
