-- A turn ends: packets are prepared, and the process stands at its clock.
use Rattle.std.proofs.Common.{◌≡◌, ◌⊎◌, inl, inr, ℕ, zero, suc, ◌+◌, ◌-◌, ◌<◌, ◌≤◌, min, Bool, true, false, not, ◌&&◌, ◌||◌}
use Rattle.std.proofs.Common.{cond, nat_eq, nat_lt, length, List, [], ◌∷◌, ◌++◌, is_none, is_some, Option, Some, None, refl, ap}
use Rattle.std.proofs.Common.{sym, ◌∙◌, subst, arith}
use Rattle.std.specs.List.{list_all, list_any}
use Rattle.std.proofs.lemmas.Bool.{and_parts, cases_lt}
use Rattle.std.proofs.lemmas.Bool.Decides.{nat_tests}
use Rattle.dv_time.proofs.Ranks.{is_before-rank}
use Rattle.dv_time.specs.Time.{IsOfRun, is_before, rank}
use Rattle.dv_time.specs.declared.time.Time.{Time}
use Rattle.dv_conservative.proofs.Windows.{itself}
use Rattle.dv_conservative.specs.Events.{Event, events_between, in_order}
use Rattle.dv_conservative.specs.Process.{IsWithin, Outgoing as OutgoingAsMeant, Packet, Share, end_rank, events_by, packet_of}
use Rattle.dv_conservative.specs.Process.{promise, sent_on}
use Rattle.dv_conservative.specs.Turn.{AllMayBecome, AllPromised, IsPromised, MayBecome, Position, Prepares, StaysOn, all_free}
use Rattle.dv_conservative.specs.Turn.{some_prepared}
use Rattle.dv_proc.proofs.Pending.{none_between, silent_between}
use Rattle.dv_proc.proofs.Received.{eq_sym}
use Rattle.dv_proc.specs.Advancing.{AreBeside, IsFinished, waiting}
use Rattle.dv_proc.specs.Arriving.{AreApart}
use Rattle.dv_proc.specs.Leaving.{ArePending, IsPending, is_prepared, outgoing_numbers, position_by, promised_by, standing_by, standing_on}
use Rattle.dv_proc.specs.Midway.{AllStand, AreCaught, IsCaught, StandsAt}
use Rattle.dv_proc.specs.Packets.{meant_events}
use Rattle.dv_proc.specs.declared.outgoing.Outgoing.{Outgoing}
use Rattle.dv_proc.specs.declared.packet.Packet.{Packet as PacketOfCode}

-- the links of a share and those of the code have the same numbers
abbrev pub AreNumbered : List OutgoingAsMeant → List Outgoing → Type 0
AreNumbered [] [] = Unit {0}
AreNumbered (out ∷ outs) (o ∷ os) = (out.number ≡ o.number) × AreNumbered outs os
AreNumbered [] (o ∷ os) = ⊥
AreNumbered (out ∷ outs) [] = ⊥

stands_beside : (m : ℕ) (p : Option Packet) (t : Time) (c : Time) (x : Position) (outs : List OutgoingAsMeant) (os : List Outgoing) →
    list_any (nat_eq m) (outgoing_numbers os) ≡ false → AllStand x outs os →
    AllStand (record {
      clock = c;
      standing = λ l. cond (nat_eq l m) p (x.standing l);
      promised =
          λ l. cond (nat_eq l m) t (x.promised l);
    }) outs os
stands_beside m p t c x [] [] h k = tt
stands_beside m p t c x [] (o ∷ os) h k = absurd k
stands_beside m p t c x (out ∷ outs) [] h k = absurd k
stands_beside m p t c x (out ∷ outs) (o ∷ os) h k =
    by_test (λ r. stands_beside m p t c x outs os r k.1) (nat_eq m o.number) refl h
  where
    next : Position
    next = record { clock = c; standing = λ l. cond (nat_eq l m) p (x.standing l); promised = λ l. cond (nat_eq l m) t (x.promised l) }

    by_test : (list_any (nat_eq m) (outgoing_numbers os) ≡ false →
        AllStand (record {
          clock = c;
          standing = λ l. cond (nat_eq l m) p (x.standing l);
          promised =
              λ l. cond (nat_eq l m) t (x.promised l);
        }) outs os) →
        (b : Bool) → nat_eq m o.number ≡ b → (b || list_any (nat_eq m) (outgoing_numbers os)) ≡ false →
        AllStand (record {
          clock = c;
          standing = λ l. cond (nat_eq l m) p (x.standing l);
          promised =
              λ l. cond (nat_eq l m) t (x.promised l);
        })
        (out ∷ outs) (o ∷ os)
    by_test rest true e h = absurd (cc)
    by_test rest false e h =
        let away : nat_eq out.number m ≡ false = ap (λ (n : ℕ). nat_eq n m) k.0.number ∙ eq_sym o.number m ∙ e in (
          record {
            number = k.0.number;
            standing = ap (λ (b : Bool). cond b p (x.standing out.number)) away ∙ k.0.standing;
            promised = ap (λ (b : Bool). cond b t (x.promised out.number)) away ∙ k.0.promised;
          },
          rest h,
        )

-- the position of links of which no number comes twice has what each has
pub all_stand : (c : Time) (outs : List OutgoingAsMeant) (os : List Outgoing) → AreNumbered outs os → AreApart (outgoing_numbers os) →
    AllStand (position_by c os) outs os
all_stand c [] [] h apart = tt
all_stand c [] (o ∷ os) h apart = absurd h
all_stand c (out ∷ outs) [] h apart = absurd h
all_stand c (out ∷ outs) (o ∷ os) h apart =
    let here : nat_eq out.number o.number ≡ true = ap (λ (n : ℕ). nat_eq n o.number) h.0 ∙ itself o.number in (
      record {
        number = h.0;
        standing = ap (λ (b : Bool). cond b (standing_on o.standing) (standing_by os out.number)) here;
        promised = ap (λ (b : Bool). cond b o.promised (promised_by os out.number)) here;
      },
      stands_beside o.number (standing_on o.standing) o.promised c (position_by c os) outs os apart.0 (all_stand c outs os h.1 apart.1),
    )

pub caught_numbers : (s : Share) (events : ℕ → List Event) (upto : ℕ) (emitted : Bool) (now : Time) (outs : List OutgoingAsMeant)
    (os : List Outgoing) →
    AreCaught s events upto emitted now outs os → AreNumbered outs os
caught_numbers s events upto emitted now [] [] h = tt
caught_numbers s events upto emitted now [] (o ∷ os) h = absurd h
caught_numbers s events upto emitted now (out ∷ outs) [] h = absurd h
caught_numbers s events upto emitted now (out ∷ outs) (o ∷ os) h = (h.0.number, caught_numbers s events upto emitted now outs os h.1)

pub tail_beside : (R : ℕ → Outgoing → Outgoing → Type 0) (x y : Outgoing) (xs ys : List Outgoing) → AreBeside R (x ∷ xs) (y ∷ ys) →
    AreBeside (λ j. R (suc j)) xs ys
tail_beside R x y xs ys h =
    let count : suc (length ys) ≡ suc (length xs) = h.0 in (omega arith, λ j d less. h.1 (suc j) d (omega arith))

none_stands : (o : Option PacketOfCode) → is_none (standing_on o) ≡ is_none o
none_stands None = refl
none_stands (Some p) = refl

is_none_then : (o : Option PacketOfCode) → is_none o ≡ true → standing_on o ≡ None
is_none_then None h = refl
is_none_then (Some p) h = absurd (cc)

none_is : (o : Option PacketOfCode) → standing_on o ≡ None → is_none o ≡ true
none_is None h = refl
none_is (Some p) h = absurd (cc)

-- one link as a turn ends
module _ (s : Share) (received : ℕ → List Packet) (clock now upto : Time) (emitted : Bool) (of_run : IsOfRun s.limit upto)
    (far : rank s.limit upto ≡ promise s received (rank s.limit now))
    (later : min (suc (rank s.limit now)) (end_rank s) ≤ rank s.limit upto) (last : rank s.limit upto ≤ end_rank s)
    (silent : (out : OutgoingAsMeant) (n : ℕ) → min (suc (rank s.limit now)) (end_rank s) ≤ n → n < rank s.limit upto →
    in_order (sent_on s (events_by received) out n) ≡ []) where
  abbrev until : ℕ
  until = min (suc (rank s.limit now)) (end_rank s)

  module _ (before after : Position) (at : after.clock ≡ now) (out : OutgoingAsMeant) (x y : Outgoing) (was : StandsAt before out x)
      (is : StandsAt after out y)
      (caught : IsCaught s (events_by received) until emitted now out x) (ends : IsFinished emitted now upto x y) where
    all_events : events_between s.limit (sent_on s (events_by received) out) (rank s.limit x.promised) (rank s.limit upto)
        ≡ meant_events (waiting emitted now x)
    all_events =
        silent_between s.limit (sent_on s (events_by received) out) (rank s.limit x.promised) until (rank s.limit upto) later (silent out)
        ∙ sym caught.caught

    is_later : is_before x.promised upto ≡ nat_lt (rank s.limit x.promised) (rank s.limit upto)
    is_later = is_before-rank s.limit x.promised upto caught.within.0 of_run

    pub link_pending : IsPending s (events_by received) until out y
    link_pending = by_test (is_prepared upto x) ends.promised ends.pending
      where
        by_test : (t : Bool) → y.promised ≡ cond t upto x.promised → y.pending.items ≡ cond t [] (waiting emitted now x) →
            IsPending s (events_by received) until out y
        by_test true e p = record {
          number = caught.number ∙ sym ends.number;
          within = subst (IsWithin s) (sym e) (of_run, last);
          pending = ap meant_events p
              ∙ sym (ap (λ (t : Time). events_between s.limit (sent_on s (events_by received) out) (rank s.limit t) until) e
              ∙ none_between s.limit (sent_on s (events_by received) out) (rank s.limit upto) until later);
        }
        by_test false e p = record {
          number = caught.number ∙ sym ends.number;
          within = subst (IsWithin s) (sym e) caught.within;
          pending = ap meant_events p ∙ caught.caught
              ∙ sym (ap (λ (t : Time). events_between s.limit (sent_on s (events_by received) out) (rank s.limit t) until) e);
        }

    pub link_becomes : MayBecome s received out before after
    link_becomes = by_test (is_prepared upto x) refl ends.promised ends.standing
      where
        by_test : (t : Bool) → is_prepared upto x ≡ t → y.promised ≡ cond t upto x.promised →
            standing_on y.standing
            ≡ cond t (Some (let p : Packet = record {
              link = x.number;
              from = x.promised;
              upto = upto;
              events =
                  meant_events (waiting emitted now x);
            } in p))
            (standing_on x.standing)
            → MayBecome s received out before after
        by_test true t e p =
            let parts = and_parts (is_none x.standing) (is_before x.promised upto) t in
            let less : nat_lt (rank s.limit x.promised) (rank s.limit upto) ≡ true = sym is_later ∙ parts.1 in
            let lt : rank s.limit x.promised < rank s.limit upto = grind (arith, nat_tests) in
            inr (record {
              upto = upto;
              free = was.standing ∙ is_none_then x.standing parts.0;
              later = subst (λ (t : Time). rank s.limit t < rank s.limit upto) (sym was.promised) lt;
              within = (of_run, last);
              kept = subst (λ (t : Time). rank s.limit upto ≤ promise s received (rank s.limit t)) (sym at) (omega arith);
              stands = is.standing ∙ p
                  ∙ ap (λ (n : ℕ).
                  Some (let q : Packet = record {
                    link = n;
                    from = x.promised;
                    upto = upto;
                    events =
                        meant_events (waiting emitted now x);
                  } in q))
                  (sym caught.number)
                  ∙ ap (λ (es : List Event). Some (let q : Packet = record {
                    link = out.number;
                    from = x.promised;
                    upto = upto;
                    events =
                        es;
                  } in q))
                  (sym all_events)
                  ∙ ap (λ (t : Time). Some (packet_of s (events_by received) out t upto)) (sym was.promised);
              promised = is.promised ∙ e;
            })
        by_test false t e p = inl (record {
          stands = is.standing ∙ p ∙ sym was.standing;
          promised = is.promised ∙ e ∙ sym was.promised;
        })

    pub link_promised : IsPromised s received before after out
    link_promised free = by_test (is_prepared upto x) refl ends.promised
      where
        none : is_none x.standing ≡ true
        none = none_is x.standing (sym was.standing ∙ free)

        by_test : (t : Bool) → is_prepared upto x ≡ t → y.promised ≡ cond t upto x.promised →
            (promise s received (rank s.limit after.clock) ≤ rank s.limit (after.promised out.number))
            × (min (suc (rank s.limit after.clock)) (end_rank s) ≤ rank s.limit (after.promised out.number))
        by_test true t e =
            let same : after.promised out.number ≡ upto = is.promised ∙ e in
            rw (at, same) (omega arith, later)
        by_test false t e =
            let same : after.promised out.number ≡ x.promised = is.promised ∙ e in
            let not_later : is_before x.promised upto ≡ false = ap (λ (b : Bool). b && is_before x.promised upto) (sym none) ∙ t in
            let not_less : nat_lt (rank s.limit x.promised) (rank s.limit upto) ≡ false = sym is_later ∙ not_later in
            let le : rank s.limit upto ≤ rank s.limit x.promised = grind (arith, nat_tests) in
            rw (at, same) (omega arith, omega arith)

    pub link_prepared : (is_none (before.standing out.number) && is_some (after.standing out.number)) ≡ is_prepared upto x
    link_prepared = by_test (is_prepared upto x) refl ends.standing
      where
        by_test : (t : Bool) → is_prepared upto x ≡ t →
            standing_on y.standing
            ≡ cond t (Some (let p : Packet = record {
              link = x.number;
              from = x.promised;
              upto = upto;
              events =
                  meant_events (waiting emitted now x);
            } in p))
            (standing_on x.standing)
            → (is_none (before.standing out.number) && is_some (after.standing out.number)) ≡ t
        by_test true t p =
            let parts = and_parts (is_none x.standing) (is_before x.promised upto) t in
            let free : before.standing out.number ≡ None = was.standing ∙ is_none_then x.standing parts.0 in
            let some = is.standing ∙ p in
            rw (free, some) refl
        by_test false t p = by_option x.standing was.standing (is.standing ∙ p)
          where
            by_option : (o : Option PacketOfCode) → before.standing out.number ≡ standing_on o → after.standing out.number ≡ standing_on o →
                (is_none (before.standing out.number) && is_some (after.standing out.number)) ≡ false
            by_option None e f = rw (e, f) refl
            by_option (Some p) e f = rw e refl

  -- all links
  module _ (before after : Position) (at : after.clock ≡ now) where
    pub links_end : (outs : List OutgoingAsMeant) (xs ys : List Outgoing) → AllStand before outs xs → AllStand after outs ys →
        AreCaught s (events_by received) until emitted now outs xs → AreBeside (λ j. IsFinished emitted now upto) xs ys →
        ArePending s (events_by received) until outs ys × AllMayBecome s received before after outs × AllPromised s received before after
        outs
        × (some_prepared before after outs ≡ list_any (is_prepared upto) xs)
        × (all_free after outs ≡ list_all (λ (o : Outgoing). is_none o.standing) ys)
    links_end [] [] [] was is caught ends = (tt, tt, tt, refl, refl)
    links_end [] [] (y ∷ ys) was is caught ends = absurd is
    links_end [] (x ∷ xs) ys was is caught ends = absurd was
    links_end (out ∷ outs) [] ys was is caught ends = absurd was
    links_end (out ∷ outs) (x ∷ xs) [] was is caught ends = absurd is
    links_end (out ∷ outs) (x ∷ xs) (y ∷ ys) was is caught ends =
        let first : IsFinished emitted now upto x y = ends.1 0 x (omega arith) in
        let rest = links_end outs xs ys was.1 is.1 caught.1 (tail_beside (λ j. IsFinished emitted now upto) x y xs ys ends) in
        let free : is_none (after.standing out.number) ≡ is_none y.standing = ap is_none is.0.standing ∙ none_stands y.standing in (
          (link_pending before after at out x y was.0 is.0 caught.0 first, rest.0),
          (link_becomes before after at out x y was.0 is.0 caught.0 first, rest.1),
          (link_promised before after at out x y was.0 is.0 caught.0 first, rest.2),
          ap (λ (b : Bool). b || some_prepared before after outs) (link_prepared before after at out x y was.0 is.0 caught.0 first)
              ∙ ap (λ (b : Bool). is_prepared upto x || b) rest.3,
          ap (λ (b : Bool). b && all_free after outs) free ∙ ap (λ (b : Bool). is_none y.standing && b) rest.4,
        )
