-- A turn moves the clock: what was sent on the way waits, or was computed.
use Rattle.std.proofs.Common.{◌≡◌, ◌⊎◌, inl, inr, ℕ, zero, suc, ◌+◌, ◌-◌, ◌<◌, ◌≤◌, min, Bool, true, false, not, ◌&&◌, cond}
use Rattle.std.proofs.Common.{nat_eq, nat_lt, get_or, length, List, [], ◌∷◌, ◌++◌, map, IsTrue, Option, Some, None, refl, ap}
use Rattle.std.proofs.Common.{sym, ◌∙◌, subst, arith}
use Rattle.std.specs.Prelude.{slice_get}
use Rattle.std.proofs.lemmas.Bool.{cases_lt}
use Rattle.std.proofs.lemmas.Bool.Decides.{nat_tests}
use Rattle.std.proofs.lemmas.List.{map-append}
use std.Path.{fun_ext}
use Rattle.dv_time.proofs.Ranks.{is_before-rank, time_of-rank}
use Rattle.dv_time.specs.Time.{IsOfRun, is_before, rank, time_of}
use Rattle.dv_time.specs.declared.time.Time.{Time}
use Rattle.dv_bag.specs.Bag.{Counts}
use Rattle.dv_bag.specs.declared.state.State.{State}
use Rattle.dv_devs.proofs.Idle.{none_send}
use Rattle.dv_devs.proofs.NextTimes.{least_next_at, matched_at}
use Rattle.dv_devs.proofs.Stretches.{none_imminent_before}
use Rattle.dv_devs.specs.Behaviour.{Component, is_at}
use Rattle.dv_devs.specs.Idle.{nothing_sent}
use Rattle.dv_devs.specs.Network.{components_at, emissions, emissions_at}
use Rattle.dv_devs.specs.NextTimes.{IsFrom, IsReady, least_next}
use Rattle.dv_conservative.proofs.Numbers.{is_ready}
use Rattle.dv_conservative.specs.Events.{Event, event_of, events_between, in_order}
use Rattle.dv_conservative.specs.Flat.{network, numbers}
use Rattle.dv_conservative.specs.Links.{Delivery, carried, sent_of}
use Rattle.dv_conservative.specs.Process.{IsWithin, Outgoing as OutgoingAsMeant, Packet, Share, components_by, end_rank}
use Rattle.dv_conservative.specs.Process.{events_by, inputs_by, least_clock, sent_on}
use Rattle.dv_conservative.specs.Sound.{IsSoundShare}
use Rattle.dv_conservative.specs.Turn.{Position}
use Rattle.dv_proc.proofs.Ending.{tail_beside}
use Rattle.dv_proc.proofs.Pending.{none_between, one_more, silent_between}
use Rattle.dv_proc.proofs.Runs.{run_after, run_later}
use Rattle.dv_proc.proofs.Silent.{nothing_away}
use Rattle.dv_proc.specs.Advancing.{AreBeside, IsAdvance, IsNextDue, IsSameLink, waiting}
use Rattle.dv_proc.specs.Leaving.{ArePending, IsPending, outgoing_numbers, position_by, promised_by, standing_by, standing_on}
use Rattle.dv_proc.specs.Local.{IsLocalRun, View, brings_at, carried_away, sent_at}
use Rattle.dv_proc.specs.Midway.{AreCaught, IsCaught}
use Rattle.dv_proc.specs.Packets.{meant_event, meant_events}
use Rattle.dv_proc.specs.declared.outgoing.Outgoing.{Outgoing}
use Rattle.dv_proc.specs.declared.packet.Event.{Event as EventOfCode}
use Rattle.dv_proc.specs.declared.packet.Packet.{Packet as PacketOfCode}

-- links that are the same but for room
pub standing_same : (xs ys : List Outgoing) → AreBeside (λ j. IsSameLink) xs ys → (l : ℕ) → standing_by ys l ≡ standing_by xs l
standing_same [] [] h l = refl
standing_same [] (y ∷ ys) h l = let count : suc (length ys) ≡ 0 = h.0 in absurd (omega arith)
standing_same (x ∷ xs) [] h l = let count : 0 ≡ suc (length xs) = h.0 in absurd (omega arith)
standing_same (x ∷ xs) (y ∷ ys) h l =
    let first : IsSameLink x y = h.1 0 x (omega arith) in
    ap (λ (n : ℕ). cond (nat_eq l n) (standing_on y.standing) (standing_by ys l)) first.number
    ∙ ap (λ (p : Option PacketOfCode). cond (nat_eq l x.number) (standing_on p) (standing_by ys l)) first.standing
    ∙ ap (λ (p : Option Packet). cond (nat_eq l x.number) (standing_on x.standing) p)
    (standing_same xs ys (tail_beside (λ j. IsSameLink) x y xs ys h) l)

pub promised_same : (xs ys : List Outgoing) → AreBeside (λ j. IsSameLink) xs ys → (l : ℕ) → promised_by ys l ≡ promised_by xs l
promised_same [] [] h l = refl
promised_same [] (y ∷ ys) h l = let count : suc (length ys) ≡ 0 = h.0 in absurd (omega arith)
promised_same (x ∷ xs) [] h l = let count : 0 ≡ suc (length xs) = h.0 in absurd (omega arith)
promised_same (x ∷ xs) (y ∷ ys) h l =
    let first : IsSameLink x y = h.1 0 x (omega arith) in
    ap (λ (n : ℕ). cond (nat_eq l n) y.promised (promised_by ys l)) first.number
    ∙ ap (λ (t : Time). cond (nat_eq l x.number) t (promised_by ys l)) first.promised
    ∙ ap (λ (t : Time). cond (nat_eq l x.number) x.promised t)
    (promised_same xs ys (tail_beside (λ j. IsSameLink) x y xs ys h) l)

pub position_same : (c : Time) (xs ys : List Outgoing) → AreBeside (λ j. IsSameLink) xs ys → position_by c ys ≡ position_by c xs
position_same c xs ys h =
    ap (λ (f : ℕ → Option Packet). let p : Position = record { clock = c; standing = f; promised = promised_by ys } in p)
    (fun_ext (standing_same xs ys h))
    ∙ ap (λ (f : ℕ → Time). let p : Position = record { clock = c; standing = standing_by xs; promised = f } in p)
    (fun_ext (promised_same xs ys h))

pub numbers_kept : (xs ys : List Outgoing) → AreBeside (λ j. IsSameLink) xs ys → outgoing_numbers ys ≡ outgoing_numbers xs
numbers_kept [] [] h = refl
numbers_kept [] (y ∷ ys) h = let count : suc (length ys) ≡ 0 = h.0 in absurd (omega arith)
numbers_kept (x ∷ xs) [] h = let count : 0 ≡ suc (length xs) = h.0 in absurd (omega arith)
numbers_kept (x ∷ xs) (y ∷ ys) h =
    let first : IsSameLink x y = h.1 0 x (omega arith) in
    ap (λ (n : ℕ). n ∷ outgoing_numbers ys) first.number
    ∙ ap (λ (ns : List ℕ). x.number ∷ ns) (numbers_kept xs ys (tail_beside (λ j. IsSameLink) x y xs ys h))

pub pending_kept : (s : Share) (events : ℕ → List Event) (upto : ℕ) (outs : List OutgoingAsMeant) (xs ys : List Outgoing) →
    AreBeside (λ j. IsSameLink) xs ys → ArePending s events upto outs xs → ArePending s events upto outs ys
pending_kept s events upto [] [] [] h k = tt
pending_kept s events upto [] [] (y ∷ ys) h k = let count : suc (length ys) ≡ 0 = h.0 in absurd (omega arith)
pending_kept s events upto [] (x ∷ xs) ys h k = absurd k
pending_kept s events upto (out ∷ outs) [] ys h k = absurd k
pending_kept s events upto (out ∷ outs) (x ∷ xs) [] h k = let count : 0 ≡ suc (length xs) = h.0 in absurd (omega arith)
pending_kept s events upto (out ∷ outs) (x ∷ xs) (y ∷ ys) h k =
    let first : IsSameLink x y = h.1 0 x (omega arith) in (
      record {
        number = k.0.number ∙ sym first.number;
        within = subst (IsWithin s) (sym first.promised) k.0.within;
        pending = ap meant_events first.pending ∙ k.0.pending
            ∙ ap (λ (t : Time). events_between s.limit (sent_on s events out) (rank s.limit t) upto) (sym first.promised);
      },
      pending_kept s events upto outs xs ys (tail_beside (λ j. IsSameLink) x y xs ys h) k.1,
    )

-- nothing was computed: what waits is what waited
pub caught_at_rest : (s : Share) (events : ℕ → List Event) (upto : ℕ) (now : Time) (outs : List OutgoingAsMeant) (os : List Outgoing) →
    ArePending s events upto outs os → AreCaught s events upto false now outs os
caught_at_rest s events upto now [] [] h = tt
caught_at_rest s events upto now [] (o ∷ os) h = absurd h
caught_at_rest s events upto now (out ∷ outs) [] h = absurd h
caught_at_rest s events upto now (out ∷ outs) (o ∷ os) h = (
  record { number = h.0.number; within = h.0.within; caught = h.0.pending },
  caught_at_rest s events upto now outs os h.1,
)

-- the clock moved on
module _ (fits : ℕ → State → Bool) (v w : View) (events : ℕ → List Event) (k m n : ℕ) (run : IsLocalRun v events k) (lt : k < m)
    (moved : IsAdvance k m v w n) (sound : IsSoundShare fits v.share) where
  after : IsLocalRun w events (suc k)
  after = run_after v events k run w moved.instant

  sound_w : IsSoundShare fits w.share
  sound_w = subst (IsSoundShare fits) (sym moved.instant.share) sound

  ready : IsReady (network w.share.flat)
  ready = is_ready fits (λ k. w.share.response) w.share.flat sound_w.sound

  next_from : IsFrom (suc k) (least_next w.components)
  next_from =
      subst (λ (cs : List Component). IsFrom (suc k) (least_next cs)) (sym after.components)
      (least_next_at w.share.limit (network w.share.flat) (inputs_by w.share events) ready (suc k))

  at_next : (next : Option ℕ) → IsFrom (suc k) next → is_at n next ≡ true → suc k ≤ n
  at_next None h e = absurd (cc)
  at_next (Some t) h e = let same : t ≡ n = grind (arith, nat_tests) in omega arith

  -- it rose
  pub rose : suc k ≤ n
  rose = elim moved.next.due [
    | inl last ↦ omega arith
    | inr due ↦ elim due [ inl at ↦ at_next (least_next w.components) next_from at | inr comes ↦ comes.0 ]
  ]

  pub run_there : IsLocalRun w events n
  run_there = run_later w events (suc k) after fits sound_w n rose moved.next.next moved.next.none

  -- on the way nothing was sent
  on_the_way : (j : ℕ) → suc k ≤ j → j < n → (out : OutgoingAsMeant) → in_order (sent_on w.share events out j) ≡ []
  on_the_way j low less out =
      let there = run_later w events (suc k) after fits sound_w j low
      (far (least_next w.components) moved.next.next) (λ i le lt. moved.next.none i le (omega arith)) in
      let next : IsFrom n (least_next (components_at w.share.limit (network w.share.flat) (inputs_by w.share events) j))
      = subst (λ (cs : List Component). IsFrom n (least_next cs)) there.components moved.next.next in
      nothing_away w.share events out j
      (none_send (network w.share.flat).behaviours j (components_at w.share.limit (network w.share.flat) (inputs_by w.share events) j)
      (matched_at w.share.limit (network w.share.flat) (inputs_by w.share events) ready j)
      (none_imminent_before j n (components_at w.share.limit (network w.share.flat) (inputs_by w.share events) j) less next))
    where
      far : (next : Option ℕ) → IsFrom n next → IsFrom j next
      far None h = tt
      far (Some t) h = omega arith

  -- what is sent at the clock
  pub sent_there : (out : OutgoingAsMeant) → carried_away w out.links (sent_at w n) ≡ in_order (sent_on w.share events out n)
  sent_there out =
      ap (λ (cs : List Component). carried_away w out.links (emissions (network w.share.flat).behaviours n cs)) run_there.components

  module _ (now : Time) (of_run : IsOfRun w.share.limit now) (at : rank w.share.limit now ≡ n) (emitted : Bool)
      (is : emitted ≡ nat_lt n (end_rank w.share)) (last : n ≤ end_rank w.share) where
    abbrev K : ℕ
    K = min (suc n) (end_rank w.share)

    module _ (out : OutgoingAsMeant) (o : Outgoing) (pending : IsPending w.share events (suc k) out o)
        (fresh : emitted ≡ true → meant_events o.fresh.items ≡ map (event_of now) (in_order (sent_on w.share events out n))) where
      abbrev P : ℕ
      P = rank w.share.limit o.promised

      abbrev stream : ℕ → List Delivery
      stream = sent_on w.share events out

      waited : meant_events o.pending.items ≡ events_between w.share.limit stream P n
      waited = pending.pending ∙ sym (silent_between w.share.limit stream P (suc k) n rose (λ j low less. on_the_way j low less out))

      before_is : is_before now o.promised ≡ nat_lt n P
      before_is = is_before-rank w.share.limit now o.promised of_run pending.within.0 ∙ ap (λ (i : ℕ). nat_lt i P) at

      now_is : now ≡ time_of w.share.limit n
      now_is = sym (time_of-rank w.share.limit now of_run) ∙ ap (time_of w.share.limit) at

      by_both : (b : Bool) → is_before now o.promised ≡ b → emitted ≡ true → n < end_rank w.share →
          meant_events (cond (true && not b) (o.pending.items ++ o.fresh.items) o.pending.items) ≡ events_between w.share.limit stream P K
      by_both true e h less =
          let early : nat_lt n P ≡ true = sym before_is ∙ e in
          let lt : n < P = grind (arith, nat_tests) in
          let upto : K ≡ suc n = omega arith in
          waited ∙ none_between w.share.limit stream P n (omega arith)
          ∙ sym (none_between w.share.limit stream P (suc n) (omega arith)) ∙ ap (events_between w.share.limit stream P) (sym upto)
      by_both false e h less =
          let late : nat_lt n P ≡ false = sym before_is ∙ e in
          let le : P ≤ n = grind (arith, nat_tests) in
          let upto : K ≡ suc n = omega arith in
          map-append meant_event o.pending.items o.fresh.items
          ∙ ap (λ (es : List Event). es ++ meant_events o.fresh.items) waited
          ∙ ap (λ (es : List Event). events_between w.share.limit stream P n ++ es)
          (fresh h ∙ ap (λ (t : Time). map (event_of t) (in_order (stream n))) now_is)
          ∙ sym (one_more w.share.limit stream P n le) ∙ ap (events_between w.share.limit stream P) (sym upto)

      by_test : (b : Bool) → emitted ≡ b →
          meant_events (cond (b && not (is_before now o.promised)) (o.pending.items ++ o.fresh.items) o.pending.items)
          ≡ events_between w.share.limit stream P K
      by_test true e =
          let test : nat_lt n (end_rank w.share) ≡ true = sym is ∙ e in
          by_both (is_before now o.promised) refl e (grind (arith, nat_tests))
      by_test false e =
          let test : nat_lt n (end_rank w.share) ≡ false = sym is ∙ e in
          let le : end_rank w.share ≤ n = grind (arith, nat_tests) in
          let upto : K ≡ n = omega arith in
          waited ∙ ap (events_between w.share.limit stream P) (sym upto)

      link_caught : IsCaught w.share events K emitted now out o
      link_caught = record {
        number = pending.number;
        within = pending.within;
        caught = by_test emitted refl;
      }

    pub links_caught : (outs : List OutgoingAsMeant) (os : List Outgoing) → ArePending w.share events (suc k) outs os →
        (emitted ≡ true → (j : ℕ) (d : Outgoing) → j < length os → (out : OutgoingAsMeant) → slice_get outs j ≡ Some out →
        meant_events (get_or os j d).fresh.items ≡ map (event_of now) (carried_away w out.links (sent_at w n)))
        → AreCaught w.share events K emitted now outs os
    links_caught [] [] pending fresh = tt
    links_caught [] (o ∷ os) pending fresh = absurd pending
    links_caught (out ∷ outs) [] pending fresh = absurd pending
    links_caught (out ∷ outs) (o ∷ os) pending fresh = (
      link_caught out o pending.0 (λ e. fresh e 0 o (omega arith) out refl ∙ ap (map (event_of now)) (sent_there out)),
      links_caught outs os pending.1 (λ e j d lt other there. fresh e (suc j) d (omega arith) other there),
    )
