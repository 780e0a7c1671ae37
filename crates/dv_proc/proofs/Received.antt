-- What one packet more makes of what was received.
use Rattle.std.proofs.Common.{◌≡◌, inl, inr, ℕ, zero, suc, ◌+◌, ◌-◌, ◌<◌, ◌≤◌, min, Bool, true, false, not, ◌||◌, cond, nat_eq}
use Rattle.std.proofs.Common.{length, get_or, take, List, [], ◌∷◌, ◌++◌, append-nil, append_assoc, map, IsTrue, Option, Some}
use Rattle.std.proofs.Common.{None, refl, ap, sym, ◌∙◌, subst, arith}
use Rattle.std.specs.Prelude.{slice_set}
use Rattle.std.specs.List.{list_any}
use Rattle.std.proofs.lemmas.Bool.Decides.{nat_tests}
use std.Path.{fun_ext}
use Rattle.dv_time.specs.Time.{IsOfRun, rank}
use Rattle.dv_time.specs.declared.time.Time.{Time}
use Rattle.dv_bag.specs.Bag.{Counts}
use Rattle.dv_conservative.proofs.Delivered.{delivered-append, delivered_either}
use Rattle.dv_conservative.proofs.Local.{same_number}
use Rattle.dv_conservative.proofs.Settled.{events_append}
use Rattle.dv_conservative.proofs.Windows.{at_append, itself}
use Rattle.dv_conservative.specs.Events.{Event, deliveries_at}
use Rattle.dv_conservative.specs.Links.{Delivery, delivered}
use Rattle.dv_conservative.specs.Process.{Packet, Share, all_events, channel_clock, clock_after, events_by, events_in, least_of}
use Rattle.dv_conservative.specs.Process.{with_packet}
use Rattle.dv_conservative.specs.Sound.{AllNumbers, AllReceivedNumbers}
use Rattle.dv_proc.specs.Arriving.{AreApart, AreClocked, IsClocked, IsIndex, incoming_numbers, least_among, received_by}
use Rattle.dv_proc.specs.Local.{DeliverAlike}
use Rattle.dv_proc.specs.Packets.{meant_events}
use Rattle.dv_proc.specs.declared.packet.Event.{Event as EventOfCode}
use Rattle.dv_bag.specs.Bag.{is_number}
use Rattle.dv_proc.specs.declared.incoming.Incoming.{Incoming}

-- tests of numbers
pub eq_sym : (a b : ℕ) → nat_eq a b ≡ nat_eq b a
eq_sym a b = grind (arith, nat_tests)

-- what is received on the links at their indices
abbrev meant : Incoming → List Packet
meant i = i.received.packets

pub received_here : (n index : ℕ) (is : List Incoming) (x : Incoming) → IsIndex n index is → x ≡ get_or is index x
    → received_by is n ≡ meant x
received_here n index [] x h e = absurd h
received_here n zero (i ∷ is) x h e = rw h (ap meant (sym e))
received_here n (suc index) (i ∷ is) x h e = rw h.0 (received_here n index is x h.1 e)

pub clocked_here : (limit n index : ℕ) (is : List Incoming) (x : Incoming) → AreClocked limit is → IsIndex n index is
    → x ≡ get_or is index x → IsClocked limit x
clocked_here limit n index [] x c h e = absurd h
clocked_here limit n zero (i ∷ is) x c h e = subst (IsClocked limit) (sym e) c.0
clocked_here limit n (suc index) (i ∷ is) x c h e = clocked_here limit n index is x c.1 h.1 e

-- a link with another at its index
module _ (n : ℕ) (x y : Incoming) (p : Packet) (number : y.number ≡ x.number) (more : meant y ≡ meant x ++ p ∷ []) (link : p.link ≡ n) where
  number_here : (index : ℕ) (is : List Incoming) → IsIndex n index is → x ≡ get_or is index x → x.number ≡ n
  number_here index [] h e = absurd h
  number_here zero (i ∷ is) h e = ap (λ (j : Incoming). j.number) e ∙ sym (same_number n i.number h)
  number_here (suc index) (i ∷ is) h e = number_here index is h.1 e

  pub numbers_stay : (index : ℕ) (is : List Incoming) → IsIndex n index is → x ≡ get_or is index x
      → incoming_numbers (slice_set is index y) ≡ incoming_numbers is
  numbers_stay index [] h e = absurd h
  numbers_stay zero (i ∷ is) h e = ap (λ (m : ℕ). m ∷ incoming_numbers is) (number ∙ ap (λ (j : Incoming). j.number) e)
  numbers_stay (suc index) (i ∷ is) h e = ap (λ (ms : List ℕ). i.number ∷ ms) (numbers_stay index is h.1 e)

  pub received_with : (index : ℕ) (is : List Incoming) → IsIndex n index is → x ≡ get_or is index x → (l : ℕ) →
      received_by (slice_set is index y) l ≡ with_packet (received_by is) p l
  received_with index [] h e l = absurd h
  received_with zero (i ∷ is) h e l =
      let same : i.number ≡ n = sym (same_number n i.number h) in
      let other : y.number ≡ n = number ∙ number_here zero (i ∷ is) h e in
      let test_y : nat_eq l y.number ≡ nat_eq l n = ap (nat_eq l) other in
      let test_i : nat_eq l i.number ≡ nat_eq l n = ap (nat_eq l) same in
      let test_p : nat_eq l p.link ≡ nat_eq l n = ap (nat_eq l) link in
      rw (test_y, test_p, test_i) (by_test (nat_eq l n))
    where
      by_test : (t : Bool) → cond t (meant y) (received_by is l) ≡ cond t (cond t (meant i) (received_by is l) ++ p ∷ [])
          (cond t (meant i) (received_by is l))
      by_test true = more ∙ ap (λ (j : Incoming). meant j ++ p ∷ []) e
      by_test false = refl
  received_with (suc index) (i ∷ is) h e l = by_test (received_with index is h.1 e l) (nat_eq l i.number) refl
    where
      by_test : received_by (slice_set is index y) l ≡ with_packet (received_by is) p l → (t : Bool) → nat_eq l i.number ≡ t →
          cond t (meant i) (received_by (slice_set is index y) l)
          ≡ cond (nat_eq l p.link) (cond t (meant i) (received_by is l) ++ p ∷ []) (cond t (meant i) (received_by is l))
      by_test rest true s =
          let here : l ≡ i.number = same_number l i.number s in
          let away : nat_eq l p.link ≡ false = rw (link, here) (eq_sym i.number n ∙ h.0) in
          rw away refl
      by_test rest false s = rest

  pub clocked_with : (limit index : ℕ) (is : List Incoming) → AreClocked limit is → IsClocked limit y
      → AreClocked limit (slice_set is index y)
  clocked_with limit index [] c k = tt
  clocked_with limit zero (i ∷ is) c k = (k, c.1)
  clocked_with limit (suc index) (i ∷ is) c k = (c.0, clocked_with limit index is c.1 k)

pub clock_last : (start : Time) (ps : List Packet) (p : Packet) → clock_after start (ps ++ p ∷ []) ≡ p.upto
clock_last start [] p = refl
clock_last start (q ∷ ps) p = clock_last q.upto ps p

pub events_last : (ps : List Packet) (p : Packet) → events_in (ps ++ p ∷ []) ≡ events_in ps ++ p.events
events_last [] p = append-nil p.events
events_last (q ∷ ps) p =
    ap (λ (es : List Event). q.events ++ es) (events_last ps p)
    ∙ sym (append_assoc q.events (events_in ps) p.events)

-- one packet more on a link
module _ (limit : ℕ) (received : ℕ → List Packet) (p : Packet) where
  pub least_rises : (bound : ℕ) (ls : List ℕ) → rank limit (channel_clock (received p.link)) ≤ rank limit p.upto →
      least_of limit bound ls received ≤ least_of limit bound ls (with_packet received p)
  least_rises bound [] le = omega arith
  least_rises bound (l ∷ ls) le = by_test (least_rises bound ls le) (nat_eq l p.link) refl
    where
      by_test : least_of limit bound ls received ≤ least_of limit bound ls (with_packet received p) → (t : Bool) → nat_eq l p.link ≡ t →
          least_of limit bound (l ∷ ls) received
          ≤ min (rank limit (channel_clock (cond t (received l ++ p ∷ []) (received l)))) (least_of limit bound ls (with_packet received p))
      by_test rest true s =
          let here : l ≡ p.link = same_number l p.link s in
          let last : rank limit (channel_clock (received l ++ p ∷ [])) ≡ rank limit p.upto =
          ap (rank limit) (clock_last _ (received l) p) in
          let old : rank limit (channel_clock (received l)) ≡ rank limit (channel_clock (received p.link))
          = ap (λ (m : ℕ). rank limit (channel_clock (received m))) here in
          omega arith
      by_test rest false s = omega arith

  pub numbers_with : (ls : List ℕ) → AllReceivedNumbers received ls → AllNumbers p.events → AllReceivedNumbers (with_packet received p) ls
  numbers_with [] all some = tt
  numbers_with (l ∷ ls) all some = (by_test (nat_eq l p.link), numbers_with ls all.1 some)
    where
      by_test : (t : Bool) → AllNumbers (events_in (cond t (received l ++ p ∷ []) (received l)))
      by_test true = subst AllNumbers (sym (events_last (received l) p)) (events_append (events_in (received l)) p.events all.0 some)
      by_test false = all.0

  -- the deliveries of a rank
  none_on : (n : ℕ) (ls : List ℕ) → list_any (nat_eq p.link) ls ≡ false →
      all_events ls (events_by (with_packet received p)) ≡ all_events ls (events_by received)
  none_on n [] h = refl
  none_on n (l ∷ ls) h = by_test (λ k. none_on n ls k) (nat_eq p.link l) refl h
    where
      by_test : (list_any (nat_eq p.link) ls ≡ false → all_events ls (events_by (with_packet received p))
          ≡ all_events ls (events_by received)) →
          (t : Bool) → nat_eq p.link l ≡ t → (t || list_any (nat_eq p.link) ls) ≡ false →
          all_events (l ∷ ls) (events_by (with_packet received p)) ≡ all_events (l ∷ ls) (events_by received)
      by_test rest true s h = absurd (cc)
      by_test rest false s h =
          let away : nat_eq l p.link ≡ false = eq_sym l p.link ∙ s in
          rw away (ap (λ (es : List Event). events_in (received l) ++ es) (rest h))

  pub deliver_with : (n : ℕ) (ls : List ℕ) → AreApart ls → list_any (nat_eq p.link) ls ≡ true →
      DeliverAlike (deliveries_at limit (all_events ls (events_by (with_packet received p))) n)
      (deliveries_at limit (all_events ls (events_by received)) n ++ deliveries_at limit p.events n)
  deliver_with n [] apart h k port bag = absurd (cc)
  deliver_with n (l ∷ ls) apart h k port bag = by_test (λ some. deliver_with n ls apart.1 some k port bag) (nat_eq p.link l) refl h
    where
      new : List Event
      new = all_events ls (events_by (with_packet received p))

      old : List Event
      old = all_events ls (events_by received)

      by_test : (list_any (nat_eq p.link) ls ≡ true →
          delivered k port (deliveries_at limit (all_events ls (events_by (with_packet received p))) n) bag
          ≡ delivered k port (deliveries_at limit (all_events ls (events_by received)) n ++ deliveries_at limit p.events n) bag) →
          (t : Bool) → nat_eq p.link l ≡ t → (t || list_any (nat_eq p.link) ls) ≡ true →
          delivered k port (deliveries_at limit (all_events (l ∷ ls) (events_by (with_packet received p))) n) bag
          ≡ delivered k port (deliveries_at limit (all_events (l ∷ ls) (events_by received)) n ++ deliveries_at limit p.events n) bag
      by_test rest true s h =
          let same : p.link ≡ l = same_number p.link l s in
          let here : nat_eq l p.link ≡ true = eq_sym l p.link ∙ s in
          let gone : list_any (nat_eq p.link) ls ≡ false = rw same apart.0 in
          let dest = deliveries_at limit p.events n in
          let first = deliveries_at limit (events_in (received l)) n in
          let others = deliveries_at limit (all_events ls (events_by received)) n in
          let on : events_by (with_packet received p) l ≡ events_in (received l) ++ p.events = rw here (events_last (received l) p) in
          let stay : all_events ls (events_by (with_packet received p)) ≡ all_events ls (events_by received) = none_on n ls gone in
          let split : deliveries_at limit (events_by (with_packet received p) l ++ all_events ls (events_by (with_packet received p))) n
          ≡ (first ++ dest) ++ others
          = at_append limit (events_by (with_packet received p) l) (all_events ls (events_by (with_packet received p))) n
          ∙ ap (λ (es : List Event). deliveries_at limit es n ++ deliveries_at limit (all_events ls (events_by (with_packet received p)))
          n) on
          ∙ ap (λ (ds : List Delivery). ds ++ deliveries_at limit (all_events ls (events_by (with_packet received p))) n)
          (at_append limit (events_in (received l)) p.events n)
          ∙ ap (λ (es : List Event). (first ++ dest) ++ deliveries_at limit es n) stay in
          let old : deliveries_at limit (events_by received l ++ all_events ls (events_by received)) n ≡ first ++ others
          = at_append limit (events_by received l) (all_events ls (events_by received)) n in
          ap (λ (ds : List Delivery). delivered k port ds bag) split
          ∙ delivered-append k port (first ++ dest) others bag
          ∙ delivered-append k port first dest (delivered k port others bag)
          ∙ ap (delivered k port first) (delivered_either k port dest others bag)
          ∙ sym (delivered-append k port first others (delivered k port dest bag))
          ∙ sym (delivered-append k port (first ++ others) dest bag)
          ∙ ap (λ (ds : List Delivery). delivered k port (ds ++ dest) bag) (sym old)
      by_test rest false s h =
          let away : nat_eq l p.link ≡ false = eq_sym l p.link ∙ s in
          let dest = deliveries_at limit p.events n in
          let first = deliveries_at limit (events_in (received l)) n in
          let others = deliveries_at limit (all_events ls (events_by received)) n in
          let news = deliveries_at limit (all_events ls (events_by (with_packet received p))) n in
          let on : events_by (with_packet received p) l ≡ events_in (received l) = rw away refl in
          let split : deliveries_at limit (events_by (with_packet received p) l ++ all_events ls (events_by (with_packet received p))) n
          ≡ first ++ news
          = at_append limit (events_by (with_packet received p) l) (all_events ls (events_by (with_packet received p))) n
          ∙ ap (λ (es : List Event). deliveries_at limit es n ++ deliveries_at limit (all_events ls (events_by (with_packet received p)))
          n) on in
          let old : deliveries_at limit (events_by received l ++ all_events ls (events_by received)) n ≡ first ++ others
          = at_append limit (events_by received l) (all_events ls (events_by received)) n in
          ap (λ (ds : List Delivery). delivered k port ds bag) split
          ∙ delivered-append k port first news bag
          ∙ ap (delivered k port first) (rest h ∙ delivered-append k port others dest bag)
          ∙ sym (delivered-append k port first others (delivered k port dest bag))
          ∙ sym (delivered-append k port (first ++ others) dest bag)
          ∙ ap (λ (ds : List Delivery). delivered k port (ds ++ dest) bag) (sym old)

-- the least channel clock, as the code finds it
least_beside : (limit bound m : ℕ) (ps : List Packet) (received : ℕ → List Packet) (ls : List ℕ) → list_any (nat_eq m) ls ≡ false →
    least_of limit bound ls (λ l. cond (nat_eq l m) ps (received l)) ≡ least_of limit bound ls received
least_beside limit bound m ps received [] h = refl
least_beside limit bound m ps received (l ∷ ls) h = by_test (λ k. least_beside limit bound m ps received ls k) (nat_eq m l) refl h
  where
    by_test : (list_any (nat_eq m) ls ≡ false → least_of limit bound ls (λ l. cond (nat_eq l m) ps (received l))
        ≡ least_of limit bound ls received) →
        (t : Bool) → nat_eq m l ≡ t → (t || list_any (nat_eq m) ls) ≡ false →
        least_of limit bound (l ∷ ls) (λ l. cond (nat_eq l m) ps (received l)) ≡ least_of limit bound (l ∷ ls) received
    by_test rest true s h = absurd (cc)
    by_test rest false s h =
        let away : nat_eq l m ≡ false = eq_sym l m ∙ s in
        rw away (ap (min (rank limit (channel_clock (received l)))) (rest h))

pub least_meant : (limit bound : ℕ) (is : List Incoming) → AreApart (incoming_numbers is) → AreClocked limit is →
    least_among limit bound is ≡ least_of limit bound (incoming_numbers is) (received_by is)
least_meant limit bound [] apart clocked = refl
least_meant limit bound (i ∷ is) apart clocked =
    let here : nat_eq i.number i.number ≡ true = itself i.number in
    let rest = least_meant limit bound is apart.1 clocked.1 in
    let beside = least_beside limit bound i.number (meant i) (received_by is) (incoming_numbers is) apart.0 in
    let clock : rank limit i.clock ≡ rank limit (channel_clock (meant i)) = ap (rank limit) clocked.0.0 in
    rw here (ap (λ (n : ℕ). min n (least_among limit bound is)) clock ∙ ap (min (rank limit (channel_clock (meant i)))) (rest ∙ sym beside))

-- one number more
more_numbers : (es : List EventOfCode) (i : ℕ) (d : EventOfCode) → i < length es → AllNumbers (meant_events (take i es)) →
    IsTrue (is_number (get_or es i d).value) → AllNumbers (meant_events (take (suc i) es))
more_numbers [] i d lt all here = absurd (omega arith)
more_numbers (e ∷ es) zero d lt all here = (here, tt)
more_numbers (e ∷ es) (suc i) d lt all here = (all.0, more_numbers es i d (omega arith) all.1 here)

pub one_more_number : (es : List EventOfCode) (i : ℕ) (d : EventOfCode) → i < length es → AllNumbers (meant_events (take i es)) →
    IsTrue (is_number (get_or es i d).value) → AllNumbers (meant_events (take (i + 1) es))
one_more_number es i d lt all here =
    let next : suc i ≡ i + 1 = omega arith in
    subst (λ (n : ℕ). AllNumbers (meant_events (take n es))) next (more_numbers es i d lt all here)

-- a link of a number there is
pub any_here : (n index : ℕ) (is : List Incoming) → IsIndex n index is → list_any (nat_eq n) (incoming_numbers is) ≡ true
any_here n index [] h = absurd h
any_here n zero (i ∷ is) h = rw h refl
any_here n (suc index) (i ∷ is) h = rw h.0 (any_here n index is h.1)
