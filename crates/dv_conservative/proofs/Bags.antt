-- The bags that links make, and nothing that comes of nothing.
use Rattle.std.proofs.Common.{◌≡◌, ℕ, suc, zero, ◌+◌, ◌*◌, Bool, true, false, ◌&&◌, cond, nat_eq, List, [], ◌∷◌, ◌++◌, ℤ, map}
use Rattle.std.proofs.Common.{IsTrue, refl, sym, ap, ◌∙◌, arith}
use Rattle.std.proofs.lemmas.Bool.{and_parts}
use Rattle.std.proofs.lemmas.Bool.Decides.{nat_tests}
use Rattle.dv_bag.specs.Bag.{Counts, bag_at, capped, size, total, union, with_copies}
use Rattle.dv_bag.proofs.Monoid.{copies_either}
use Rattle.dv_devs.specs.Behaviour.{Behaviour, all_empty}
use Rattle.dv_devs.specs.Idle.{BringsNothing, LeavesOnlyWhatIsSent, no_values, nothing_sent}
use Rattle.dv_conservative.specs.Links.{Delivery, Link, SameFor, carried, carried_by, delivered, inbox, leads_to, sent_of, times}
use Rattle.dv_conservative.specs.Flat.{Flat, Member, behaviours, network, numbers, received}
use Rattle.dv_conservative.proofs.Delivered.{delivered-append, delivered_either}
use Rattle.dv_conservative.proofs.Local.{same_number}

union_later : (v : ℤ) (n : ℕ) (a b : Counts) → union (with_copies v n a) b ≡ with_copies v n (union a b)
union_later v n a [] = refl
union_later v n a (p ∷ ps) =
    ap (λ (c : Counts). union c ps) (copies_either p.0 v p.1 n a) ∙ union_later v n (with_copies p.0 p.1 a) ps

itself : (n : ℕ) → nat_eq n n ≡ true
itself n = grind (arith, nat_tests)

pub adds_copies : (l : Link) (sent bag : Counts) → delivered l.to l.to_port (carried_by l sent) bag ≡ union bag (times l.copies sent)
adds_copies l [] bag = refl
adds_copies l (p ∷ ps) bag =
    let rest = adds_copies l ps bag in
    rw (itself l.to, itself l.to_port)
    (ap (with_copies p.0 (capped (p.1 * l.copies))) rest ∙ sym (union_later p.0 (capped (p.1 * l.copies)) bag (times l.copies ps)))

pub adds_elsewhere : (k port : ℕ) (l : Link) (sent bag : Counts) → leads_to k port l ≡ false →
    delivered k port (carried_by l sent) bag ≡ bag
adds_elsewhere k port l [] bag e = refl
adds_elsewhere k port l (p ∷ ps) bag e = rw e (adds_elsewhere k port l ps bag e)

pub any_order : (who : ℕ → Bool) (es fs : List Delivery) → SameFor who (es ++ fs) (fs ++ es)
any_order who es fs k port bag h = delivered-append k port es fs bag ∙ delivered_either k port es fs bag
    ∙ sym (delivered-append k port fs es bag)

-- bags of no values
with_none : (v : ℤ) (b : Counts) → total b ≡ 0 → total (with_copies v 0 b) ≡ 0
with_none v b h = h

-- deliveries of no copies
AllNone : List Delivery → Type 0
AllNone [] = Unit {0}
AllNone (e ∷ es) = (e.copies ≡ 0) × AllNone es

none_at_all : AllNone []
unfolding AllNone
none_at_all = tt

none_append : (es fs : List Delivery) → AllNone es → AllNone fs → AllNone (es ++ fs)
unfolding AllNone
none_append [] fs h k = k
none_append (e ∷ es) fs h k = (h.0, none_append es fs h.1 k)

none_carried_by : (l : Link) (b : Counts) → total b ≡ 0 → AllNone (carried_by l b)
unfolding AllNone
none_carried_by l [] h = tt
none_carried_by l (p ∷ ps) h =
    let none : p.1 ≡ 0 = omega arith in
    let product : capped (p.1 * l.copies) ≡ capped (0 * l.copies) = ap (λ (n : ℕ). capped (n * l.copies)) none in
    (product ∙ omega arith, none_carried_by l ps (omega arith))

none_carried : (links : List Link) (sent : ℕ → List Counts) → ((k port : ℕ) → total (bag_at (sent k) port) ≡ 0) →
    AllNone (carried links sent)
unfolding AllNone
none_carried [] sent h = tt
none_carried (l ∷ ls) sent h =
    none_append (carried_by l (bag_at (sent l.from) l.from_port)) (carried ls sent)
    (none_carried_by l (bag_at (sent l.from) l.from_port) (h l.from l.from_port)) (none_carried ls sent h)

none_delivered : (k port : ℕ) (es : List Delivery) → AllNone es → total (delivered k port es []) ≡ 0
unfolding AllNone
none_delivered k port [] h = refl
none_delivered k port (e ∷ es) h = by_test (nat_eq e.component k && nat_eq e.port port) (none_delivered k port es h.1)
  where
    by_test : (t : Bool) → total (delivered k port es []) ≡ 0 →
        total (cond t (with_copies e.value e.copies (delivered k port es [])) (delivered k port es [])) ≡ 0
    by_test true rest = rw h.0 rest
    by_test false rest = rest

size_of_none : (b : Counts) → total b ≡ 0 → nat_eq (size b) 0 ≡ true
size_of_none b h = rw h refl

none_of_size : (b : Counts) → nat_eq (size b) 0 ≡ true → total b ≡ 0
none_of_size b h = let none : size b ≡ 0 = same_number (size b) 0 h in omega arith

inbox_empty : (k : ℕ) (es : List Delivery) (port n : ℕ) → AllNone es → IsTrue (all_empty (inbox k es port n))
inbox_empty k es port zero h = refl
inbox_empty k es port (suc n) h = rw (size_of_none (delivered k port es []) (none_delivered k port es h)) (inbox_empty k es (port + 1) n h)

received_empty : (ms : List Member) (es : List Delivery) → AllNone es → IsTrue (no_values (received ms es))
received_empty [] es h = refl
received_empty (m ∷ ms) es h = rw (inbox_empty m.number es 0 m.ports h) (received_empty ms es h)

bag_empty : (bags : List Counts) (port : ℕ) → IsTrue (all_empty bags) → total (bag_at bags port) ≡ 0
bag_empty [] zero h = refl
bag_empty [] (suc port) h = refl
bag_empty (b ∷ bs) zero h = let parts = and_parts (nat_eq (size b) 0) (all_empty bs) h in none_of_size b parts.0
bag_empty (b ∷ bs) (suc port) h = let parts = and_parts (nat_eq (size b) 0) (all_empty bs) h in bag_empty bs port parts.1

by_test : (t : Bool) (bags rest : List Counts) → IsTrue (all_empty bags) → IsTrue (all_empty rest) → IsTrue (all_empty (cond t bags rest))
by_test true bags rest h k = h
by_test false bags rest h k = k

sent_empty : (js : List ℕ) (sent : List (List Counts)) (k : ℕ) → IsTrue (no_values sent) → IsTrue (all_empty (sent_of js sent k))
sent_empty [] sent k h = refl
sent_empty (j ∷ js) [] k h = by_test (nat_eq j k) [] (sent_of js [] k) refl (sent_empty js [] k refl)
sent_empty (j ∷ js) (bags ∷ sent) k h =
    let parts = and_parts (all_empty bags) (no_values sent) h in
    by_test (nat_eq j k) bags (sent_of js sent k) parts.0 (sent_empty js sent k parts.1)

none_sent : (bs : List Behaviour) → IsTrue (no_values (map (λ (b : Behaviour). []) bs))
none_sent [] = refl
none_sent (b ∷ bs) = none_sent bs

module _ (f : Flat) where
  silence : (k port : ℕ) → total (bag_at (sent_of (numbers f.members) (nothing_sent (network f)) k) port) ≡ 0
  silence k port =
      bag_empty (sent_of (numbers f.members) (nothing_sent (network f)) k) port
      (sent_empty (numbers f.members) (nothing_sent (network f)) k (none_sent (behaviours f.members)))

  pub nothing_arrives : (outside : List Counts) → IsTrue (all_empty outside) → BringsNothing (network f) (outside, [])
  nothing_arrives outside none =
      let links = none_carried f.links (sent_of (numbers f.members) (nothing_sent (network f))) silence in
      received_empty f.members _
      (none_append (carried f.entrances (λ k. outside)) (carried f.links (sent_of (numbers f.members) (nothing_sent (network f))) ++ [])
      (none_carried f.entrances (λ k. outside) (λ k port. bag_empty outside port none))
      (none_append (carried f.links (sent_of (numbers f.members) (nothing_sent (network f)))) [] links none_at_all))

  pub nothing_leaves : LeavesOnlyWhatIsSent (network f)
  nothing_leaves =
      inbox_empty 0 (carried f.exits (sent_of (numbers f.members) (nothing_sent (network f)))) 0 f.outputs
      (none_carried f.exits (sent_of (numbers f.members) (nothing_sent (network f))) silence)
