-- A packet that stood is given away.
use Rattle.std.proofs.Common.{◌≡◌, ℕ, zero, suc, ◌+◌, ◌<◌, ◌≤◌, min, Bool, true, false, cond, get_or, length, nat_eq, List, []}
use Rattle.std.proofs.Common.{◌∷◌, Option, Some, None, refl, ap, sym, ◌∙◌, subst, arith}
use Rattle.std.specs.Prelude.{slice_set}
use Rattle.std.proofs.lemmas.Bool.Decides.{nat_tests}
use Rattle.dv_time.specs.Time.{rank}
use Rattle.dv_time.specs.declared.time.Time.{Time}
use Rattle.dv_conservative.proofs.Local.{same_number}
use Rattle.dv_conservative.specs.Events.{Event, events_between}
use Rattle.dv_conservative.specs.Process.{IsWithin, Outgoing as OutgoingAsMeant, Packet, Share, end_rank, events_by, sent_on}
use Rattle.dv_proc.proofs.Received.{eq_sym}
use Rattle.dv_proc.specs.Arriving.{AreApart, received_by}
use Rattle.dv_proc.specs.Leaving.{ArePending, IsOutIndex, IsPending, out_index_from, outgoing_numbers, promised_by, standing_by}
use Rattle.dv_proc.specs.Leaving.{standing_on}
use Rattle.dv_proc.specs.Local.{View}
use Rattle.std.specs.Prelude.{MatchOption}
use Rattle.dv_proc.specs.Packets.{meant_events, meant_packet}
use Rattle.dv_proc.specs.Standing.{IsProcess}
use Rattle.dv_proc.specs.declared.incoming.Incoming.{Incoming}
use Rattle.dv_proc.specs.declared.outgoing.Outgoing.{Outgoing}
use Rattle.dv_proc.specs.declared.packet.Packet.{Packet as PacketOfCode}

same_some : {X : Type 0} (x y : X) → Some x ≡ Some y → x ≡ y
same_some x y e = cc

out_found : (number base i : ℕ) (os : List Outgoing) → out_index_from base number os ≡ Some i →
    (j : ℕ) × (i ≡ base + j) × (j < length os) × IsOutIndex number j os
out_found number base i [] e = absurd (cc)
out_found number base i (x ∷ xs) e = by_test (λ f. out_found number (base + 1) i xs f) (nat_eq number x.number) refl e
  where
    by_test : (out_index_from (base + 1) number xs ≡ Some i → (j : ℕ) × (i ≡ (base + 1) + j) × (j < length xs) × IsOutIndex number j xs) →
        (t : Bool) → nat_eq number x.number ≡ t → cond t (Some base) (out_index_from (base + 1) number xs) ≡ Some i →
        (j : ℕ) × (i ≡ base + j) × (j < length (x ∷ xs)) × IsOutIndex number j (x ∷ xs)
    by_test rest true h e = let same : base ≡ i = same_some base i e in (zero, omega arith, omega arith, h)
    by_test rest false h e =
        let later = rest e in
        let far : i ≡ (base + 1) + later.0 = later.1 in
        let less : later.0 < length xs = later.2 in
        (suc later.0, omega arith, omega arith, (h, later.3))

pub out_index_is : (number i : ℕ) (os : List Outgoing) → out_index_from 0 number os ≡ Some i → (i < length os) × IsOutIndex number i os
out_index_is number i os e =
    let found = out_found number 0 i os e in
    let far : i ≡ 0 + found.0 = found.1 in
    let same : found.0 ≡ i = omega arith in
    (subst (λ (n : ℕ). n < length os) same found.2, subst (λ (n : ℕ). IsOutIndex number n os) same found.3)

none_stands_by : (number base : ℕ) (os : List Outgoing) → out_index_from base number os ≡ None → standing_by os number ≡ None
none_stands_by number base [] e = refl
none_stands_by number base (x ∷ xs) e = by_test (λ f. none_stands_by number (base + 1) xs f) (nat_eq number x.number) refl e
  where
    by_test : (out_index_from (base + 1) number xs ≡ None → standing_by xs number ≡ None) → (t : Bool) → nat_eq number x.number ≡ t →
        cond t (Some base) (out_index_from (base + 1) number xs) ≡ None → standing_by (x ∷ xs) number ≡ None
    by_test rest true h e = absurd (cc)
    by_test rest false h e = rw h (rest e)

pub none_there : (number : ℕ) (os : List Outgoing) → out_index_from 0 number os ≡ None → standing_by os number ≡ None
none_there number os e = none_stands_by number 0 os e

-- where no link has the number, none stands there
pub none_free : (number : ℕ) (os : List Outgoing) → standing_by os number ≡ None → (l : ℕ)
    → standing_by os l ≡ cond (nat_eq l number) None (standing_by os l)
none_free number os e l = by_test (nat_eq l number) refl
  where
    by_test : (t : Bool) → nat_eq l number ≡ t → standing_by os l ≡ cond t None (standing_by os l)
    by_test true h = ap (standing_by os) (same_number l number h) ∙ e
    by_test false h = refl

module _ (n : ℕ) (x y : Outgoing) (number : y.number ≡ x.number) (standing : y.standing ≡ None) (promised : y.promised ≡ x.promised)
    (pending : y.pending.items ≡ x.pending.items) where
  pub stood_here : (index : ℕ) (os : List Outgoing) → IsOutIndex n index os → x ≡ get_or os index x
      → standing_by os n ≡ standing_on x.standing
  stood_here index [] h e = absurd h
  stood_here zero (o ∷ os) h e = rw h (ap (λ (z : Outgoing). standing_on z.standing) (sym e))
  stood_here (suc index) (o ∷ os) h e = rw h.0 (stood_here index os h.1 e)

  pub free_there : (index : ℕ) (os : List Outgoing) → IsOutIndex n index os → x ≡ get_or os index x → (l : ℕ) →
      standing_by (slice_set os index y) l ≡ cond (nat_eq l n) None (standing_by os l)
  free_there index [] h e l = absurd h
  free_there zero (o ∷ os) h e l =
      let same : o.number ≡ n = sym (same_number n o.number h) in
      let other : y.number ≡ n = number ∙ ap (λ (z : Outgoing). z.number) e ∙ same in
      ap (λ (m : ℕ). cond (nat_eq l m) (standing_on y.standing) (standing_by os l)) other
      ∙ ap (λ (p : Option PacketOfCode). cond (nat_eq l n) (standing_on p) (standing_by os l)) standing
      ∙ by_test (nat_eq l n)
      ∙ ap (λ (m : ℕ). cond (nat_eq l n) None (cond (nat_eq l m) (standing_on o.standing) (standing_by os l))) (sym same)
    where
      by_test : (t : Bool) → cond t None (standing_by os l) ≡ cond t None (cond t (standing_on o.standing) (standing_by os l))
      by_test true = refl
      by_test false = refl
  free_there (suc index) (o ∷ os) h e l = by_test (free_there index os h.1 e l) (nat_eq l o.number) refl
    where
      by_test : standing_by (slice_set os index y) l ≡ cond (nat_eq l n) None (standing_by os l) → (t : Bool) → nat_eq l o.number ≡ t →
          cond t (standing_on o.standing) (standing_by (slice_set os index y) l)
          ≡ cond (nat_eq l n) None (cond t (standing_on o.standing) (standing_by os l))
      by_test rest true s =
          let here : l ≡ o.number = same_number l o.number s in
          let away : nat_eq l n ≡ false = ap (λ (m : ℕ). nat_eq m n) here ∙ eq_sym o.number n ∙ h.0 in
          rw away refl
      by_test rest false s = rest

  pub promised_there : (index : ℕ) (os : List Outgoing) → IsOutIndex n index os → x ≡ get_or os index x → (l : ℕ) →
      promised_by (slice_set os index y) l ≡ promised_by os l
  promised_there index [] h e l = absurd h
  promised_there zero (o ∷ os) h e l =
      ap (λ (m : ℕ). cond (nat_eq l m) y.promised (promised_by os l)) (number ∙ ap (λ (z : Outgoing). z.number) e)
      ∙ ap (λ (t : Time). cond (nat_eq l o.number) t (promised_by os l)) (promised ∙ ap (λ (z : Outgoing). z.promised) e)
  promised_there (suc index) (o ∷ os) h e l = ap (λ (t : Time). cond (nat_eq l o.number) o.promised t) (promised_there index os h.1 e l)

  numbers_there : (index : ℕ) (os : List Outgoing) → IsOutIndex n index os → x ≡ get_or os index x
      → outgoing_numbers (slice_set os index y) ≡ outgoing_numbers os
  numbers_there index [] h e = absurd h
  numbers_there zero (o ∷ os) h e = ap (λ (m : ℕ). m ∷ outgoing_numbers os) (number ∙ ap (λ (z : Outgoing). z.number) e)
  numbers_there (suc index) (o ∷ os) h e = ap (λ (ms : List ℕ). o.number ∷ ms) (numbers_there index os h.1 e)

  pending_there : (s : Share) (events : ℕ → List Event) (upto index : ℕ) (outs : List OutgoingAsMeant) (os : List Outgoing)
      → IsOutIndex n index os →
      x ≡ get_or os index x → ArePending s events upto outs os → ArePending s events upto outs (slice_set os index y)
  pending_there s events upto index outs [] h e k = absurd h
  pending_there s events upto index [] (o ∷ os) h e k = absurd k
  pending_there s events upto zero (out ∷ outs) (o ∷ os) h e k = (
    record {
      number = k.0.number ∙ sym (number ∙ ap (λ (z : Outgoing). z.number) e);
      within = subst (IsWithin s) (sym (promised ∙ ap (λ (z : Outgoing). z.promised) e)) k.0.within;
      pending = ap meant_events (pending ∙ ap (λ (z : Outgoing). z.pending.items) e) ∙ k.0.pending
          ∙ ap (λ (t : Time). events_between s.limit (sent_on s events out) (rank s.limit t) upto)
          (sym (promised ∙ ap (λ (z : Outgoing). z.promised) e));
    },
    k.1,
  )
  pending_there s events upto (suc index) (out ∷ outs) (o ∷ os) h e k = (k.0, pending_there s events upto index outs os h.1 e k.1)

  pub process_there : (v : View) (is : List Incoming) (os : List Outgoing) (clock : Time) (index : ℕ) → IsProcess v is os clock
      → IsOutIndex n index os →
      x ≡ get_or os index x → IsProcess v is (slice_set os index y) clock
  process_there v is os clock index process h e = record {
    standing = record {
      sound = process.standing.sound;
      linked = process.standing.linked;
      apart = process.standing.apart;
      clocked = process.standing.clocked;
      numbers = process.standing.numbers;
      within = process.standing.within;
      heard = process.standing.heard;
      away = subst AreApart (sym (numbers_there index os h e)) process.standing.away;
      pending = pending_there v.share (events_by (received_by is)) (min (suc (rank v.share.limit clock)) (end_rank v.share)) index
          v.share.outgoing os h e
          process.standing.pending;
    };
    run = process.run;
  }

pub match_out : (r : Option PacketOfCode) (s : Option Packet) → s ≡ standing_on r
    → MatchOption r (s ≡ None) (λ p. s ≡ Some (meant_packet p))
match_out None s e = e
match_out (Some p) s e = e
