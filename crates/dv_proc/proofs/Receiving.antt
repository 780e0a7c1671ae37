-- A process that takes a packet.
use Rattle.std.proofs.Common.{◌≡◌, inl, inr, ℕ, zero, suc, ◌+◌, ◌-◌, ◌<◌, ◌≤◌, min, Bool, true, false, not, ◌&&◌, cond, nat_eq}
use Rattle.std.proofs.Common.{nat_le, nat_lt, get_or, length, List, [], ◌∷◌, ◌++◌, Option, Some, None, refl, ap, sym, ◌∙◌}
use Rattle.std.proofs.Common.{subst, arith}
use Rattle.std.specs.Prelude.{slice_set}
use Rattle.std.specs.List.{list_all, list_any}
use Rattle.std.proofs.lemmas.Bool.{and_parts, cases_lt}
use Rattle.std.proofs.lemmas.Bool.Decides.{nat_tests}
use std.Path.{fun_ext}
use Rattle.dv_time.specs.Time.{IsOfRun, end_of, rank}
use Rattle.dv_time.specs.declared.time.Time.{Time}
use Rattle.dv_conservative.proofs.Later.{first, sent_stays, window_of}
use Rattle.dv_conservative.proofs.Settled.{least_within}
use Rattle.dv_conservative.proofs.Told.{same_times}
use Rattle.dv_conservative.proofs.Windows.{same_windows}
use Rattle.dv_conservative.specs.Events.{Event, events_between, in_order, same_time}
use Rattle.dv_conservative.specs.Process.{Outgoing as OutgoingAsMeant, P1, P2, P3, P4, Packet, Refused, Share, are_in_order}
use Rattle.dv_conservative.specs.Process.{channel_clock, end_rank, events_by, is_event_of, is_port_of, is_window, least_clock}
use Rattle.dv_conservative.specs.Process.{refusal_of, sent_on, with_packet}
use Rattle.dv_conservative.specs.Links.{Delivery}
use Rattle.dv_conservative.specs.Sound.{AllNumbers, AllReceivedNumbers}
use Rattle.dv_proc.proofs.Received.{any_here, clock_last, clocked_here, clocked_with, least_rises}
use Rattle.dv_proc.proofs.Received.{numbers_stay, numbers_with, received_here, received_with}
use Rattle.dv_proc.proofs.Runs.{run_received}
use Rattle.dv_proc.specs.Arriving.{AreApart, IsClocked, IsIndex, incoming_numbers, received_by}
use Rattle.dv_proc.specs.Leaving.{ArePending}
use Rattle.dv_proc.specs.Local.{IsAfterEvents, IsLocalRun, View, are_for_ports}
use Rattle.dv_proc.specs.Standing.{IsAccepted, IsProcess, IsStanding}
use Rattle.dv_proc.specs.declared.incoming.Incoming.{Incoming}
use Rattle.dv_proc.specs.declared.outgoing.Outgoing.{Outgoing}

-- what a packet that is taken passed
by_link : (a : Bool) (rest : Option Refused) → cond (not a) (Some P1) rest ≡ None → a ≡ true
by_link true rest h = refl
by_link false rest h = absurd (cc)

pub there : (s : Share) (received : ℕ → List Packet) (p : Packet) → refusal_of s received p ≡ None → list_any (nat_eq p.link) s.incoming
    ≡ true
there s received p fine = by_link (list_any (nat_eq p.link) s.incoming) _ fine

-- what waits stays, where what is sent does
pub pending_stays : (s : Share) (events also : ℕ → List Event) (upto : ℕ) (outs : List OutgoingAsMeant) (os : List Outgoing) →
    ((out : OutgoingAsMeant) (n : ℕ) → n < upto → in_order (sent_on s also out n) ≡ in_order (sent_on s events out n)) →
    ArePending s events upto outs os → ArePending s also upto outs os
pending_stays s events also upto [] [] same h = tt
pending_stays s events also upto [] (o ∷ os) same h = absurd h
pending_stays s events also upto (out ∷ outs) [] same h = absurd h
pending_stays s events also upto (out ∷ outs) (o ∷ os) same h = (
  record {
    number = h.0.number;
    within = h.0.within;
    pending = h.0.pending
        ∙ sym (same_windows s.limit (sent_on s also out) (sent_on s events out) (rank s.limit o.promised) (upto - rank s.limit o.promised)
        (λ n low less. same out n (omega arith)));
  },
  pending_stays s events also upto outs os same h.1,
)

module _ (s : Share) (is : List Incoming) (os : List Outgoing) (clock : Time) (standing : IsStanding s is os clock) (index : ℕ)
    (x y : Incoming) (p : Packet) (at : IsIndex p.link index is) (item : x ≡ get_or is index x) (number : y.number ≡ x.number)
    (more : y.received.packets ≡ x.received.packets ++ p ∷ []) (ends : y.clock ≡ p.upto)
    (of_run : IsOfRun s.limit p.upto)
    (fine : refusal_of s (received_by is) p ≡ None) (some : AllNumbers p.events) where
  pub received_now : received_by (slice_set is index y) ≡ with_packet (received_by is) p
  received_now = fun_ext (λ l. received_with p.link x y p number more refl index is at item l)

  rises : rank s.limit (channel_clock (received_by is p.link)) ≤ rank s.limit p.upto
  rises =
      let begin : rank s.limit p.from ≡ rank s.limit (channel_clock (received_by is p.link)) =
      ap (rank s.limit) (first s (received_by is) p fine) in
      omega (arith, window_of s (received_by is) p fine)

  clocked_y : IsClocked s.limit y
  clocked_y = (
    ends ∙ sym (ap channel_clock more ∙ clock_last _ x.received.packets p),
    subst (IsOfRun s.limit) (sym ends) of_run,
  )

  stay : incoming_numbers (slice_set is index y) ≡ incoming_numbers is
  stay = numbers_stay p.link x y p number more refl index is at item

  pub standing_with : IsStanding s (slice_set is index y) os clock
  standing_with =
      record {
        sound = standing.sound;
        linked = standing.linked ∙ sym stay;
        apart = subst AreApart (sym stay) standing.apart;
        clocked = clocked_with p.link x y p number more refl s.limit index is standing.clocked clocked_y;
        numbers = subst (λ (r : ℕ → List Packet). AllReceivedNumbers r s.incoming) (sym received_now)
            (numbers_with s.limit (received_by is) p s.incoming standing.numbers some);
        within = standing.within;
        heard = subst (λ (r : ℕ → List Packet). rank s.limit clock ≤ least_clock s r) (sym received_now)
            (omega (arith, standing.heard, least_rises s.limit (received_by is) p (end_rank s) s.incoming rises));
        away = standing.away;
        pending = subst (λ (r : ℕ → List Packet). ArePending s (events_by r) (min (suc (rank s.limit clock)) (end_rank s)) s.outgoing os)
            (sym received_now)
            (pending_stays s (events_by (received_by is)) (events_by (with_packet (received_by is) p))
            (min (suc (rank s.limit clock)) (end_rank s)) s.outgoing os
            (λ out n lt. ap in_order (sent_stays s (received_by is) p out n fine (omega (arith, standing.heard))))
            standing.pending);
      }

module _ (v w : View) (is : List Incoming) (os : List Outgoing) (clock : Time) (process : IsProcess v is os clock) (index : ℕ)
    (x y : Incoming) (p : Packet) (at : IsIndex p.link index is) (item : x ≡ get_or is index x) (number : y.number ≡ x.number)
    (more : y.received.packets ≡ x.received.packets ++ p ∷ []) (ends : y.clock ≡ p.upto)
    (of_run : IsOfRun v.share.limit p.upto)
    (fine : refusal_of v.share (received_by is) p ≡ None) (some : AllNumbers p.events) (kept : IsAfterEvents p.events v w) where
  pub process_with : IsProcess w (slice_set is index y) os clock
  process_with = record {
    standing = subst (λ (s : Share). IsStanding s (slice_set is index y) os clock) (sym kept.share)
        (standing_with v.share is os clock process.standing index x y p at item number more ends of_run fine some);
    run = subst (λ (s : Share). IsLocalRun w (events_by (received_by (slice_set is index y))) (rank s.limit clock)) (sym kept.share)
        (subst (λ (r : ℕ → List Packet). IsLocalRun w (events_by r) (rank v.share.limit clock))
        (sym (received_now v.share is os clock process.standing index x y p at item number more ends of_run fine some))
        (run_received v w (received_by is) p (rank v.share.limit clock) process.run fine process.standing.heard
        (subst AreApart (sym process.standing.linked) process.standing.apart) (there v.share (received_by is) p fine) kept));
  }

-- the tests, by what they find
module _ (s : Share) (is : List Incoming) (os : List Outgoing) (clock : Time) (standing : IsStanding s is os clock) (p : Packet) where
  pub no_link : list_any (nat_eq p.link) (incoming_numbers is) ≡ false → refusal_of s (received_by is) p ≡ Some P1
  no_link h =
      let none : list_any (nat_eq p.link) s.incoming ≡ false = ap (list_any (nat_eq p.link)) standing.linked ∙ h in
      rw none refl

  module _ (index : ℕ) (x : Incoming) (at : IsIndex p.link index is) (item : x ≡ get_or is index x) where
    linked_here : list_any (nat_eq p.link) s.incoming ≡ true
    linked_here = ap (list_any (nat_eq p.link)) standing.linked ∙ any_here p.link index is at

    here : IsClocked s.limit x
    here = clocked_here s.limit p.link index is x standing.clocked at item

    pub clock_here : x.clock ≡ channel_clock (received_by is p.link)
    clock_here = here.0 ∙ ap channel_clock (sym (received_here p.link index is x at item))

    pub other_window : same_time p.from x.clock ≡ false → refusal_of s (received_by is) p ≡ Some P2
    other_window h =
        let other : same_time p.from (channel_clock (received_by is p.link)) ≡ false = ap (same_time p.from) (sym clock_here) ∙ h in
        rw (linked_here, other) refl

    module _ (joins : same_time p.from x.clock ≡ true) where
      next : same_time p.from (channel_clock (received_by is p.link)) ≡ true
      next = ap (same_time p.from) (sym clock_here) ∙ joins

      pub of_run_here : IsOfRun s.limit p.from
      of_run_here = subst (IsOfRun s.limit) (sym (same_times p.from x.clock joins)) here.1

      pub no_window : is_window s p ≡ false → refusal_of s (received_by is) p ≡ Some P4
      no_window h = rw (linked_here, next, h) refl

      pub other_event : is_window s p ≡ true → (are_in_order p.events && list_all (is_event_of s p) p.events) ≡ false →
          refusal_of s (received_by is) p ≡ Some P3
      other_event h k = rw (linked_here, next, h, k) refl

      pub accepted : is_window s p ≡ true → (are_in_order p.events && list_all (is_event_of s p) p.events) ≡ true →
          refusal_of s (received_by is) p ≡ None
      accepted h k = rw (linked_here, next, h, k) refl

-- events that pass are for ports
all_for_ports : (s : Share) (p : Packet) (es : List Event) → list_all (is_event_of s p) es ≡ true → are_for_ports s es ≡ true
all_for_ports s p [] h = refl
all_for_ports s p (e ∷ es) h =
    let parts = and_parts (is_event_of s p e) (list_all (is_event_of s p) es) h in
    let first = and_parts (nat_le e.time.micro s.limit)
    (nat_le (rank s.limit p.from) (rank s.limit e.time)
    && (nat_lt (rank s.limit e.time) (rank s.limit p.upto) && is_port_of s.flat.members e.component e.port)) parts.0 in
    let second = and_parts (nat_le (rank s.limit p.from) (rank s.limit e.time))
    (nat_lt (rank s.limit e.time) (rank s.limit p.upto) && is_port_of s.flat.members e.component e.port) first.1 in
    let third = and_parts (nat_lt (rank s.limit e.time) (rank s.limit p.upto)) (is_port_of s.flat.members e.component e.port) second.1 in
    rw third.1 (all_for_ports s p es parts.1)

-- the tests as the code makes them
module _ (s : Share) (is xs : List Incoming) (os : List Outgoing) (clock : Time) (standing : IsStanding s is os clock) (p : Packet)
    (index : ℕ) (x : Incoming) (same : xs ≡ is) (found : (index < length xs) × IsIndex p.link index xs) (item : x ≡ get_or is index x)
    (limit horizon : ℕ) (le : limit ≡ s.limit) (he : horizon ≡ s.horizon)
    (t : Bool) (te : t ≡ same_time p.from x.clock) where
  at : IsIndex p.link index is
  at = subst (IsIndex p.link index) same found.1

  pub found_other : t ≡ false → (refusal_of s (received_by is) p ≡ Some P2) × Unit {0}
  found_other h = (other_window s is os clock standing p index x at item (sym te ∙ h), tt)

  module _ (joined : t ≡ true) where
    joins : same_time p.from x.clock ≡ true
    joins = sym te ∙ joined

    pub found_of_run : IsOfRun limit p.from
    found_of_run = subst (λ (l : ℕ). IsOfRun l p.from) (sym le) (of_run_here s is os clock standing p index x at item joins)

    module _ (w : Bool)
        (we : w ≡ (nat_lt (rank limit p.from) (rank limit p.upto) &&
        (nat_le (rank limit p.upto) (end_of limit horizon) && nat_le p.upto.micro limit))) where
      meets : w ≡ is_window s p
      meets = we
          ∙ ap (λ (l : ℕ). nat_lt (rank l p.from) (rank l p.upto) && (nat_le (rank l p.upto) (end_of l horizon) && nat_le p.upto.micro l))
          le
          ∙ ap (λ (h : ℕ). nat_lt (rank s.limit p.from) (rank s.limit p.upto) &&
          (nat_le (rank s.limit p.upto) (end_of s.limit h) && nat_le p.upto.micro s.limit)) he

      pub found_none : w ≡ false → (refusal_of s (received_by is) p ≡ Some P4) × Unit {0}
      found_none h = (no_window s is os clock standing p index x at item joins (sym meets ∙ h), tt)

      module _ (window : w ≡ true) where
        is_one : is_window s p ≡ true
        is_one = sym meets ∙ window

        pub found_upto : IsOfRun limit p.upto
        found_upto =
            let parts = and_parts (nat_lt (rank s.limit p.from) (rank s.limit p.upto))
            (nat_le (rank s.limit p.upto) (end_rank s) && nat_le p.upto.micro s.limit) is_one in
            let last = and_parts (nat_le (rank s.limit p.upto) (end_rank s)) (nat_le p.upto.micro s.limit) parts.1 in
            let micro : p.upto.micro ≤ s.limit = grind (arith, nat_tests, last.1) in
            subst (λ (l : ℕ). IsOfRun l p.upto) (sym le) micro

        pub found_unordered : (o : Bool) → o ≡ are_in_order p.events → o ≡ false → (refusal_of s (received_by is) p ≡ Some P3) × Unit {0}
        found_unordered o oe h =
            let none : are_in_order p.events ≡ false = sym oe ∙ h in
            (other_event s is os clock standing p index x at item joins is_one (rw none refl), tt)

        module _ (o : Bool) (oe : o ≡ are_in_order p.events) (ordered : o ≡ true) (e : Bool)
            (ee : e ≡ list_all (is_event_of s p) p.events) where
          all : are_in_order p.events ≡ true
          all = sym oe ∙ ordered

          pub found_outside : e ≡ false → (refusal_of s (received_by is) p ≡ Some P3) × Unit {0}
          found_outside h =
              let none : list_all (is_event_of s p) p.events ≡ false = sym ee ∙ h in
              (other_event s is os clock standing p index x at item joins is_one (rw (all, none) refl), tt)

          pub found_fine : e ≡ true → IsAccepted s is p index
          found_fine h =
              let some : list_all (is_event_of s p) p.events ≡ true = sym ee ∙ h in
              record {
                fine = accepted s is os clock standing p index x at item joins is_one (rw (all, some) refl);
                there = subst (λ (ys : List Incoming). index < length ys) same found.0;
                at = at;
                of_run = subst (λ (l : ℕ). IsOfRun l p.upto) le found_upto;
                ports = all_for_ports s p p.events some;
              }
