-- What deliveries with copies bring, for ports that there are.
use Rattle.std.proofs.Common.{◌≡◌, ◌⊎◌, inl, inr, ℕ, zero, suc, ◌+◌, ◌*◌, ◌<◌, Bool, true, false, ◌&&◌, cond, nat_eq, List, []}
use Rattle.std.proofs.Common.{◌∷◌, ◌++◌, length, map, get_or, ℤ, refl, sym, subst, arith}
use Rattle.std.specs.Ordering.{int_cmp, match_ordering}
use Rattle.std.specs.declared.cmp.Ordering.{Ordering}
use Rattle.std.specs.declared.cmp.Ordering.TheVariants.{Less, Equal, Greater}
use Rattle.std.proofs.lemmas.Bool.{cases_lt, eq-eqb}
use Rattle.dv_bag.specs.Bag.{Counts, bag_at, capped, size, total, with_copies, with_some}
use Rattle.dv_devs.specs.Behaviour.{Behaviour, all_empty}
use Rattle.dv_devs.specs.Idle.{no_values}
use Rattle.dv_conservative.specs.Flat.{received}
use Rattle.dv_conservative.specs.Links.{Delivery, Link, carried, carried_by, delivered, inbox}
use Rattle.dv_share.specs.Share.{member_by}
use Rattle.dv_share.specs.declared.tables.Member.{Member}
use Rattle.dv_share.proofs.Indices.{differ}

-- a delivery with a copy reaches a port
abbrev pub Reaches : ℕ → ℕ → List Delivery → Type 0
Reaches k port [] = ⊥
Reaches k port (d ∷ ds) = ((0 < d.copies) × (d.component ≡ k) × (d.port ≡ port)) ⊎ Reaches k port ds

by_order : (o : Ordering) (v : ℤ) (n : ℕ) (p : ℤ × ℕ) (ps more : Counts) → 0 < n → 0 < total more
    → 0 < total (match_ordering o ((v, capped n) ∷ p ∷ ps) ((p.0, capped (p.1 + n)) ∷ ps) (p ∷ more))
by_order Less v n p ps more lt h = omega (arith, lt)
by_order Equal v n p ps more lt h = omega (arith, lt)
by_order Greater v n p ps more lt h = omega (arith, h)

some_total : (v : ℤ) (n : ℕ) (b : Counts) → 0 < n → 0 < total (with_some v n b)
some_total v n [] lt = omega (arith, lt)
some_total v n (p ∷ ps) lt = by_order (int_cmp v p.0) v n p ps (with_some v n ps) lt (some_total v n ps lt)

pub one : (v : ℤ) (n : ℕ) (b : Counts) → 0 < n → 0 < total (with_copies v n b)
one v zero b lt = absurd (omega (arith, lt))
one v (suc n) b lt = some_total v (suc n) b lt

pub more : (v : ℤ) (n : ℕ) (b : Counts) → 0 < total b → 0 < total (with_copies v n b)
more v zero b h = h
more v (suc n) b h = some_total v (suc n) b (omega arith)

module _ (k port : ℕ) where
  by_test : (t : Bool) (d : Delivery) (bag : Counts) → 0 < total bag → 0 < total (cond t (with_copies d.value d.copies bag) bag)
  by_test true d bag h = more d.value d.copies bag h
  by_test false d bag h = h

  pub reaches_total : (ds : List Delivery) → Reaches k port ds → 0 < total (delivered k port ds [])
  reaches_total [] h = absurd h
  reaches_total (d ∷ ds) (inl h) =
      let c : nat_eq d.component k ≡ true = eq-eqb d.component k h.1 in
      let p : nat_eq d.port port ≡ true = eq-eqb d.port port h.2 in
      rw c (rw p (one d.value d.copies (delivered k port ds []) h.0))
  reaches_total (d ∷ ds) (inr h) = by_test (nat_eq d.component k && nat_eq d.port port) d (delivered k port ds []) (reaches_total ds h)

  pub reaches_left : (xs ys : List Delivery) → Reaches k port xs → Reaches k port (xs ++ ys)
  reaches_left [] ys h = absurd h
  reaches_left (x ∷ xs) ys (inl h) = inl h
  reaches_left (x ∷ xs) ys (inr h) = inr (reaches_left xs ys h)

  pub reaches_right : (xs ys : List Delivery) → Reaches k port ys → Reaches k port (xs ++ ys)
  reaches_right [] ys h = h
  reaches_right (x ∷ xs) ys h = inr (reaches_right xs ys h)

and_false : (b : Bool) → (b && false) ≡ false
and_false true = refl
and_false false = refl

not_empty : (b : Counts) → 0 < total b → nat_eq (size b) 0 ≡ false
not_empty b h = differ (size b) 0 (λ e. let z : size b ≡ 0 = e in absurd (omega (arith, h, z)))

inbox_some : (k : ℕ) (ds : List Delivery) (first n i : ℕ) → i < n → 0 < total (delivered k (first + i) ds [])
    → all_empty (inbox k ds first n) ≡ false
inbox_some k ds first zero i lt h = absurd (omega (arith, lt))
inbox_some k ds first (suc n) zero lt h =
    let here : 0 < total (delivered k first ds []) = subst (λ (p : ℕ). 0 < total (delivered k p ds [])) (omega arith) h in
    rw (not_empty (delivered k first ds []) here) refl
inbox_some k ds first (suc n) (suc i) lt h =
    let rest : all_empty (inbox k ds (first + 1) n) ≡ false =
    inbox_some k ds (first + 1) n i (omega (arith, lt)) (subst (λ (p : ℕ). 0 < total (delivered k p ds [])) (omega arith) h) in
    rw rest (and_false (nat_eq (size (delivered k first ds [])) 0))

module _ {S : Type 0} (behaviour : S → Behaviour) (limit : ℕ) (models : List S) (ds : List Delivery) (port : ℕ) where
  here_some : (m : Member) → port < m.inputs → Reaches m.number port ds → all_empty (inbox m.number ds 0 m.inputs) ≡ false
  here_some m lt h =
      inbox_some m.number ds 0 m.inputs port lt
      (subst (λ (p : ℕ). 0 < total (delivered m.number p ds [])) (omega arith) (reaches_total m.number port ds h))

  -- what reaches a port of a member is a value that arrives
  pub received_some : (ms : List Member) (i : ℕ) (m : Member) → i < length ms → get_or ms i m ≡ m → port < m.inputs
      → Reaches m.number port ds
      → no_values (received (map (member_by behaviour limit models) ms) ds) ≡ false
  received_some [] i m lt e p h = absurd (omega (arith, lt))
  received_some (n ∷ ms) zero m lt e p h =
      let some : all_empty (inbox n.number ds 0 n.inputs) ≡ false =
      subst (λ (x : Member). all_empty (inbox x.number ds 0 x.inputs) ≡ false) (sym e) (here_some m p h) in
      rw some refl
  received_some (n ∷ ms) (suc i) m lt e p h =
      rw (received_some ms i m (omega (arith, lt)) e p h) (and_false (all_empty (inbox n.number ds 0 n.inputs)))

-- what a link carries of a bag with a value
product : (a b : ℕ) → 0 < a → 0 < b → 0 < a * b
product (suc a) (suc b) h k = omega arith
product zero b h k = absurd (omega (arith, h))
product (suc a) zero h k = absurd (omega (arith, k))

carried_some : (l : Link) (b : Counts) → 0 < l.copies → 0 < total b → Reaches l.to l.to_port (carried_by l b)
carried_some l [] c h = absurd (omega (arith, h))
carried_some l (p ∷ ps) c h = elim (cases_lt 0 p.1) [
  | inl lt ↦ let some : 0 < p.1 * l.copies = product p.1 l.copies lt c in inl (omega (arith, some), refl, refl)
  | inr le ↦ inr (carried_some l ps c (omega (arith, h, le)))
]

pub entered : (ls : List Link) (i : ℕ) (l : Link) (bags : List Counts) → i < length ls → get_or ls i l ≡ l → 0 < l.copies
    → 0 < total (bag_at bags l.from_port) → Reaches l.to l.to_port (carried ls (λ k. bags))
entered [] i l bags lt e c h = absurd (omega (arith, lt))
entered (x ∷ ls) zero l bags lt e c h =
    reaches_left l.to l.to_port (carried_by x (bag_at bags x.from_port)) (carried ls (λ k. bags))
    (subst (λ (y : Link). Reaches l.to l.to_port (carried_by y (bag_at bags y.from_port))) (sym e)
    (carried_some l (bag_at bags l.from_port) c h))
entered (x ∷ ls) (suc i) l bags lt e c h =
    reaches_right l.to l.to_port (carried_by x (bag_at bags x.from_port)) (carried ls (λ k. bags))
    (entered ls i l bags (omega (arith, lt)) e c h)
