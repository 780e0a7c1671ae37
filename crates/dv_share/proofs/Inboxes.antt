-- The bags that deliveries make, one delivery after the other.
use Rattle.std.proofs.Common.{◌≡◌, inl, inr, ℕ, zero, suc, ◌+◌, ◌<◌, ◌≤◌, Bool, true, false, ◌&&◌, cond, nat_eq, List, [], ◌∷◌}
use Rattle.std.proofs.Common.{◌++◌, length, get_or, set, replicate, ℤ, refl, ap, ◌∙◌, arith}
use Rattle.std.proofs.lemmas.Bool.{eq-eqb, eqb-true}
use Rattle.dv_bag.specs.Bag.{Counts, union, with_copies}
use Rattle.dv_bag.proofs.Monoid.{copies_capped}
use Rattle.dv_devs.specs.Network.{outer_from}
use Rattle.dv_conservative.specs.Links.{Delivery, delivered, inbox, taken}
use Rattle.dv_conservative.proofs.Delivered.{delivered-append, delivered_either}
use Rattle.dv_share.proofs.Indices.{differ, yes_or_no}

pub union_one : (v : ℤ) (n : ℕ) (b : Counts) → union b (with_copies v n []) ≡ with_copies v n b
union_one v zero b = refl
union_one v (suc n) b = copies_capped v (suc n) b

pub delivered_more : (k port : ℕ) (ds : List Delivery) (d : Delivery) → delivered k port (ds ++ d ∷ []) []
    ≡ taken k port d (delivered k port ds [])
delivered_more k port ds d = delivered-append k port ds (d ∷ []) [] ∙ delivered_either k port ds (d ∷ []) []

pub inbox_length : (k : ℕ) (ds : List Delivery) (a n : ℕ) → length (inbox k ds a n) ≡ n
inbox_length k ds a zero = refl
inbox_length k ds a (suc n) = ap suc (inbox_length k ds (a + 1) n)

pub inbox_nothing : (k a n : ℕ) → inbox k [] a n ≡ replicate n []
inbox_nothing k a zero = refl
inbox_nothing k a (suc n) = ap (λ (bs : List Counts). [] ∷ bs) (inbox_nothing k (a + 1) n)

-- where nothing is delivered no line is told
pub no_lines : (limit now k a n : ℕ) → outer_from limit now a (inbox k [] a n) ≡ []
no_lines limit now k a zero = refl
no_lines limit now k a (suc n) = no_lines limit now k (a + 1) n

taken_elsewhere : (k port : ℕ) (d : Delivery) (bag : Counts) → (d.port ≡ port → ⊥) → taken k port d bag ≡ bag
taken_elsewhere k port d bag apart = rw (differ d.port port apart) (by_test (nat_eq d.component k))
  where
    by_test : (t : Bool) → cond (t && false) (with_copies d.value d.copies bag) bag ≡ bag
    by_test true = refl
    by_test false = refl

-- a delivery for another port changes nothing
pub inbox_apart : (k : ℕ) (ds : List Delivery) (d : Delivery) (a n : ℕ) → ((port : ℕ) → a ≤ port → port < a + n → d.port ≡ port → ⊥) →
    inbox k (ds ++ d ∷ []) a n ≡ inbox k ds a n
inbox_apart k ds d a zero h = refl
inbox_apart k ds d a (suc n) h =
    ap (λ (b : Counts). b ∷ inbox k (ds ++ d ∷ []) (a + 1) n) (delivered_more k a ds d ∙ taken_elsewhere k a d (delivered k a ds [])
    (h a (omega arith) (omega arith)))
    ∙ ap (λ (bs : List Counts). delivered k a ds [] ∷ bs) (inbox_apart k ds d (a + 1) n (λ port le lt. h port (omega arith) (omega arith)))

taken_missed : (k port : ℕ) (d : Delivery) (bag : Counts) → (d.component ≡ k → d.port ≡ port → ⊥) → taken k port d bag ≡ bag
taken_missed k port d bag h = elim (yes_or_no (nat_eq d.component k)) [
  | inl e ↦ taken_elsewhere k port d bag (h (eqb-true d.component k e))
  | inr e ↦ rw e refl
]

-- nor does one for another component
pub inbox_missed : (k : ℕ) (ds : List Delivery) (d : Delivery) (a n : ℕ)
    → ((port : ℕ) → a ≤ port → port < a + n → d.component ≡ k → d.port ≡ port → ⊥) →
    inbox k (ds ++ d ∷ []) a n ≡ inbox k ds a n
inbox_missed k ds d a zero h = refl
inbox_missed k ds d a (suc n) h =
    ap (λ (b : Counts). b ∷ inbox k (ds ++ d ∷ []) (a + 1) n) (delivered_more k a ds d
    ∙ taken_missed k a d (delivered k a ds []) (h a (omega arith) (omega arith)))
    ∙ ap (λ (bs : List Counts). delivered k a ds [] ∷ bs) (inbox_missed k ds d (a + 1) n (λ port le lt. h port (omega arith) (omega arith)))

-- one for a port adds its copies there
pub inbox_step : (k : ℕ) (ds : List Delivery) (d : Delivery) (a n i : ℕ) → d.component ≡ k → d.port ≡ a + i →
    inbox k (ds ++ d ∷ []) a n ≡ set (inbox k ds a n) i (with_copies d.value d.copies (get_or (inbox k ds a n) i []))
inbox_step k ds d a zero i here at = refl
inbox_step k ds d a (suc n) zero here at =
    let first : nat_eq d.component k ≡ true = eq-eqb d.component k here in
    let second : nat_eq d.port a ≡ true = eq-eqb d.port a (omega (arith, at)) in
    ap (λ (b : Counts). b ∷ inbox k (ds ++ d ∷ []) (a + 1) n)
    (delivered_more k a ds d ∙ ap (λ (t : Bool). cond t (with_copies d.value d.copies (delivered k a ds [])) (delivered k a ds []))
    (both first second))
    ∙ ap (λ (bs : List Counts). with_copies d.value d.copies (delivered k a ds []) ∷ bs)
    (inbox_apart k ds d (a + 1) n (λ port le lt e. absurd (omega (arith, at, e, le))))
  where
    both : nat_eq d.component k ≡ true → nat_eq d.port a ≡ true → (nat_eq d.component k && nat_eq d.port a) ≡ true
    both x y = rw (x, y) refl
inbox_step k ds d a (suc n) (suc i) here at =
    ap (λ (b : Counts). b ∷ inbox k (ds ++ d ∷ []) (a + 1) n)
    (delivered_more k a ds d ∙ taken_elsewhere k a d (delivered k a ds []) (λ e. absurd (omega (arith, at, e))))
    ∙ ap (λ (bs : List Counts). delivered k a ds [] ∷ bs) (inbox_step k ds d (a + 1) n i here (omega (arith, at)))

pub inbox_same : (k : ℕ) (ds es : List Delivery) (a n : ℕ) → ((port : ℕ) → delivered k port ds [] ≡ delivered k port es [])
    → inbox k ds a n ≡ inbox k es a n
inbox_same k ds es a zero h = refl
inbox_same k ds es a (suc n) h =
    ap (λ (b : Counts). b ∷ inbox k ds (a + 1) n) (h a) ∙ ap (λ (bs : List Counts). delivered k a es [] ∷ bs)
    (inbox_same k ds es (a + 1) n h)
