-- A process as a run begins.
use Rattle.std.proofs.Common.{◌≡◌, ℕ, zero, suc, ◌+◌, ◌-◌, ◌*◌, ◌<◌, ◌≤◌, min, Bool, true, false, cond, take, get_or, length}
use Rattle.std.proofs.Common.{nat_eq, List, [], ◌∷◌, ◌++◌, map, Option, None, refl, ap, sym, ◌∙◌, subst, arith}
use Rattle.dv_time.specs.Time.{IsOfRun, rank}
use Rattle.dv_time.specs.declared.time.Time.{Time}
use Rattle.dv_bag.specs.declared.state.State.{State}
use Rattle.dv_devs.proofs.Idle.{none_send}
use Rattle.dv_devs.proofs.NextTimes.{matched_at}
use Rattle.dv_devs.proofs.Stretches.{none_imminent_before}
use Rattle.dv_devs.specs.Behaviour.{Component}
use Rattle.dv_devs.specs.NextTimes.{IsFrom, least_next}
use Rattle.dv_conservative.proofs.Numbers.{is_ready}
use Rattle.dv_conservative.specs.Events.{Event, deliveries_at, in_order}
use Rattle.dv_conservative.specs.Flat.{network}
use Rattle.dv_conservative.specs.Process.{IsWithin, Outgoing as OutgoingAsMeant, Packet, Share, all_events, channel_clock}
use Rattle.dv_conservative.specs.Process.{components_by, end_rank, events_by, events_in, first_time, inputs_by, sent_on}
use Rattle.dv_conservative.specs.Sound.{AllNumbers, AllReceivedNumbers, IsSoundShare}
use Rattle.dv_proc.proofs.Pending.{silent_from}
use Rattle.dv_proc.proofs.Silent.{nothing_away}
use Rattle.dv_proc.specs.Arriving.{AreApart, AreClocked, AreNewIncoming, incoming_numbers, received_by}
use Rattle.dv_proc.specs.Leaving.{AreNewOutgoing, ArePending, outgoing_numbers, promised_by, standing_by, standing_on}
use Rattle.dv_proc.specs.Local.{DeliverAlike, IsLocalRun, View}
use Rattle.dv_proc.specs.Packets.{meant_events}
use Rattle.dv_proc.specs.Standing.{IsBegun, IsProcess}
use Rattle.dv_proc.specs.declared.incoming.Incoming.{Incoming}
use Rattle.dv_proc.specs.declared.outgoing.Outgoing.{Outgoing}
use Rattle.dv_proc.specs.declared.packet.Packet.{Packet as PacketOfCode}

push_incoming : (ns : List ℕ) (i : ℕ) (is : List Incoming) (x : Incoming) → i < length ns → x.number ≡ get_or ns i 0
    → x.received.packets ≡ [] → x.clock ≡ first_time →
    AreNewIncoming (take i ns) is → AreNewIncoming (take (suc i) ns) (is ++ x ∷ [])
push_incoming [] i is x lt e p c h = absurd (omega arith)
push_incoming (n ∷ ns) zero [] x lt e p c h = (e, p, c, tt)
push_incoming (n ∷ ns) zero (j ∷ is) x lt e p c h = absurd h
push_incoming (n ∷ ns) (suc i) [] x lt e p c h = absurd h
push_incoming (n ∷ ns) (suc i) (j ∷ is) x lt e p c h = (h.0, h.1, h.2, push_incoming ns i is x (omega arith) e p c h.3)

pub more_incoming : (ns : List ℕ) (i : ℕ) (is : List Incoming) (x : Incoming) → i < length ns → x.number ≡ get_or ns i 0
    → x.received.packets ≡ [] → x.clock ≡ first_time →
    AreNewIncoming (take i ns) is → AreNewIncoming (take (i + 1) ns) (is ++ x ∷ [])
more_incoming ns i is x lt e p c h =
    let next : suc i ≡ i + 1 = omega arith in
    subst (λ (m : ℕ). AreNewIncoming (take m ns) (is ++ x ∷ [])) next (push_incoming ns i is x lt e p c h)

push_outgoing : (ns : List ℕ) (i : ℕ) (os : List Outgoing) (x : Outgoing) → i < length ns → x.number ≡ get_or ns i 0 → x.standing ≡ None →
    x.promised ≡ first_time → x.pending.items ≡ [] → AreNewOutgoing (take i ns) os → AreNewOutgoing (take (suc i) ns) (os ++ x ∷ [])
push_outgoing [] i os x lt e s t p h = absurd (omega arith)
push_outgoing (n ∷ ns) zero [] x lt e s t p h = (e, s, t, p, tt)
push_outgoing (n ∷ ns) zero (j ∷ os) x lt e s t p h = absurd h
push_outgoing (n ∷ ns) (suc i) [] x lt e s t p h = absurd h
push_outgoing (n ∷ ns) (suc i) (j ∷ os) x lt e s t p h = (h.0, h.1, h.2, h.3, push_outgoing ns i os x (omega arith) e s t p h.4)

pub more_outgoing : (ns : List ℕ) (i : ℕ) (os : List Outgoing) (x : Outgoing) → i < length ns → x.number ≡ get_or ns i 0
    → x.standing ≡ None →
    x.promised ≡ first_time → x.pending.items ≡ [] → AreNewOutgoing (take i ns) os → AreNewOutgoing (take (i + 1) ns) (os ++ x ∷ [])
more_outgoing ns i os x lt e s t p h =
    let next : suc i ≡ i + 1 = omega arith in
    subst (λ (m : ℕ). AreNewOutgoing (take m ns) (os ++ x ∷ [])) next (push_outgoing ns i os x lt e s t p h)

pub none_received : (ns : List ℕ) (is : List Incoming) → AreNewIncoming ns is → (l : ℕ) → received_by is l ≡ []
none_received [] [] h l = refl
none_received [] (i ∷ is) h l = absurd h
none_received (n ∷ ns) [] h l = absurd h
none_received (n ∷ ns) (i ∷ is) h l =
    ap (λ (ps : List Packet). cond (nat_eq l i.number) ps (received_by is l)) h.1
    ∙ by_test (nat_eq l i.number) (none_received ns is h.3 l)
  where
    by_test : (t : Bool) → received_by is l ≡ [] → cond t [] (received_by is l) ≡ []
    by_test true e = refl
    by_test false e = e

same_incoming : (ns : List ℕ) (is : List Incoming) → AreNewIncoming ns is → ns ≡ incoming_numbers is
same_incoming [] [] h = refl
same_incoming [] (i ∷ is) h = absurd h
same_incoming (n ∷ ns) [] h = absurd h
same_incoming (n ∷ ns) (i ∷ is) h =
    ap (λ (m : ℕ). m ∷ ns) (sym h.0) ∙ ap (λ (ms : List ℕ). i.number ∷ ms) (same_incoming ns is h.3)

new_clocked : (limit : ℕ) (ns : List ℕ) (is : List Incoming) → AreNewIncoming ns is → AreClocked limit is
new_clocked limit [] [] h = tt
new_clocked limit [] (i ∷ is) h = absurd h
new_clocked limit (n ∷ ns) [] h = absurd h
new_clocked limit (n ∷ ns) (i ∷ is) h = (
  (
    h.2 ∙ sym (ap channel_clock h.1),
    subst (IsOfRun limit) (sym h.2) (omega arith),
  ),
  new_clocked limit ns is h.3,
)

none_numbers : (received : ℕ → List Packet) (ls : List ℕ) → ((l : ℕ) → received l ≡ []) → AllReceivedNumbers received ls
none_numbers received [] h = tt
none_numbers received (l ∷ ls) h = (subst (λ (ps : List Packet). AllNumbers (events_in ps)) (sym (h l)) tt, none_numbers received ls h)

none_come : (received : ℕ → List Packet) (ls : List ℕ) → ((l : ℕ) → received l ≡ []) → all_events ls (events_by received) ≡ []
none_come received [] h = refl
none_come received (l ∷ ls) h =
    ap (λ (ps : List Packet). events_in ps ++ all_events ls (events_by received)) (h l) ∙ none_come received ls h

pub none_stand : (ns : List ℕ) (os : List Outgoing) → AreNewOutgoing ns os → (l : ℕ) → standing_by os l ≡ None
none_stand [] [] h l = refl
none_stand [] (o ∷ os) h l = absurd h
none_stand (n ∷ ns) [] h l = absurd h
none_stand (n ∷ ns) (o ∷ os) h l =
    ap (λ (p : Option PacketOfCode). cond (nat_eq l o.number) (standing_on p) (standing_by os l)) h.1
    ∙ by_test (nat_eq l o.number) (none_stand ns os h.4 l)
  where
    by_test : (t : Bool) → standing_by os l ≡ None → cond t None (standing_by os l) ≡ None
    by_test true e = refl
    by_test false e = e

pub none_promised : (ns : List ℕ) (os : List Outgoing) → AreNewOutgoing ns os → (l : ℕ) → promised_by os l ≡ first_time
none_promised [] [] h l = refl
none_promised [] (o ∷ os) h l = absurd h
none_promised (n ∷ ns) [] h l = absurd h
none_promised (n ∷ ns) (o ∷ os) h l =
    ap (λ (t : Time). cond (nat_eq l o.number) t (promised_by os l)) h.2
    ∙ by_test (nat_eq l o.number) (none_promised ns os h.4 l)
  where
    by_test : (t : Bool) → promised_by os l ≡ first_time → cond t first_time (promised_by os l) ≡ first_time
    by_test true e = refl
    by_test false e = e

same_outgoing : (ns : List ℕ) (os : List Outgoing) → AreNewOutgoing ns os → outgoing_numbers os ≡ ns
same_outgoing [] [] h = refl
same_outgoing [] (o ∷ os) h = absurd h
same_outgoing (n ∷ ns) [] h = absurd h
same_outgoing (n ∷ ns) (o ∷ os) h =
    ap (λ (m : ℕ). m ∷ outgoing_numbers os) h.0 ∙ ap (λ (ms : List ℕ). n ∷ ms) (same_outgoing ns os h.4)

module _ (s : Share) (events : ℕ → List Event) (upto : ℕ)
    (silent : (out : OutgoingAsMeant) (j : ℕ) → j < upto → in_order (sent_on s events out j) ≡ []) where
  new_pending : (outs : List OutgoingAsMeant) (os : List Outgoing) → AreNewOutgoing (map (λ (o : OutgoingAsMeant). o.number) outs) os →
      ArePending s events upto outs os
  new_pending [] [] h = tt
  new_pending [] (o ∷ os) h = absurd h
  new_pending (out ∷ outs) [] h = absurd h
  new_pending (out ∷ outs) (o ∷ os) h =
      let first : rank s.limit first_time ≡ 0 = omega arith in (
        record {
          number = sym h.0;
          within = subst (IsWithin s) (sym h.2) (omega arith, omega arith);
          pending = ap meant_events h.3
              ∙ sym (silent_from s.limit (sent_on s events out) (rank s.limit o.promised) (upto - rank s.limit o.promised)
              (λ j low less. silent out j (omega arith)));
        },
        new_pending outs os h.4,
      )

pub process_begun : (fits : ℕ → State → Bool) (v : View) (is : List Incoming) (os : List Outgoing) → IsBegun v → IsSoundShare fits v.share →
    AreNewIncoming v.share.incoming is → AreNewOutgoing (map (λ (o : OutgoingAsMeant). o.number) v.share.outgoing) os →
    AreApart v.share.incoming → AreApart (map (λ (o : OutgoingAsMeant). o.number) v.share.outgoing) → IsProcess v is os first_time
process_begun fits v is os begun sound new_in new_out apart_in apart_out =
    let s = v.share in
    let received = received_by is in
    let first : rank v.share.limit first_time ≡ 0 = omega arith in
    let none = none_received v.share.incoming is new_in in
    let linked = same_incoming v.share.incoming is new_in in
    let at : components_by v.share (events_by (received_by is)) 0 ≡ v.components = sym begun.components in
    let silent : (out : OutgoingAsMeant) (j : ℕ) → j < min (suc (rank v.share.limit first_time)) (end_rank v.share) →
    in_order (sent_on v.share (events_by (received_by is)) out j) ≡ []
    = λ out j less.
    let zero_is : 0 ≡ j = omega arith in
    subst (λ (n : ℕ). in_order (sent_on v.share (events_by (received_by is)) out n) ≡ []) zero_is
    (nothing_away v.share (events_by (received_by is)) out 0
    (none_send (network v.share.flat).behaviours 0 (network v.share.flat).start
    (matched_at v.share.limit (network v.share.flat) (inputs_by v.share (events_by (received_by is)))
    (is_ready fits (λ k. v.share.response) v.share.flat sound.sound) 0)
    (none_imminent_before 0 1 (network v.share.flat).start (omega arith)
    (subst (λ (cs : List Component). IsFrom 1 (least_next cs)) begun.components begun.later)))) in
    record {
      standing = record {
        sound = (fits, sound);
        linked = linked;
        apart = subst AreApart linked apart_in;
        clocked = new_clocked v.share.limit v.share.incoming is new_in;
        numbers = none_numbers (received_by is) v.share.incoming none;
        within = (omega arith, omega arith);
        heard = omega arith;
        away = subst AreApart (sym (same_outgoing (map (λ (o : OutgoingAsMeant). o.number) v.share.outgoing) os new_out)) apart_out;
        pending = new_pending v.share (events_by (received_by is)) (min (suc (rank v.share.limit first_time)) (end_rank v.share)) silent
            v.share.outgoing os new_out;
      };
      run = subst (IsLocalRun v (events_by (received_by is))) (sym first) (record {
        components = begun.components;
        committed = begun.committed;
        held = λ n low. subst (λ (es : List Event). DeliverAlike (v.held n) (deliveries_at v.share.limit es n))
            (sym (none_come (received_by is) v.share.incoming none)) (begun.held n);
      });
    }
