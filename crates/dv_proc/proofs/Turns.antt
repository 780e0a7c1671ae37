-- A whole turn: where it moved the clock, and as it ends.
use Rattle.std.proofs.Common.{◌≡◌, ◌⊎◌, inl, inr, ℕ, zero, suc, ◌+◌, ◌-◌, ◌<◌, ◌≤◌, min, Bool, true, false, not, ◌&&◌, ◌||◌}
use Rattle.std.proofs.Common.{cond, nat_eq, nat_lt, get_or, length, List, [], ◌∷◌, ◌++◌, map, IsTrue, Option, Some, None, refl}
use Rattle.std.proofs.Common.{ap, sym, ◌∙◌, subst, arith}
use Rattle.std.specs.Prelude.{slice_get}
use Rattle.std.specs.List.{list_all, list_any}
use Rattle.std.specs.Prelude.{is_none}
use Rattle.std.proofs.lemmas.Bool.Decides.{nat_tests}
use Rattle.dv_time.specs.Time.{IsOfRun, end_of, rank}
use Rattle.dv_time.specs.declared.time.Time.{Time}
use Rattle.dv_bag.specs.declared.state.State.{State}
use Rattle.dv_devs.specs.Behaviour.{Component, is_at}
use Rattle.dv_devs.specs.NextTimes.{least_next}
use Rattle.dv_conservative.proofs.Later.{known_at}
use Rattle.dv_conservative.proofs.Settled.{least_within, promise_later, promise_within}
use Rattle.dv_conservative.specs.Events.{Event, event_of, in_order}
use Rattle.dv_conservative.specs.Process.{IsWithin, Outgoing as OutgoingAsMeant, Packet, Share, at_most, brings, components_by}
use Rattle.dv_conservative.specs.Process.{end_rank, events_by, known_until, least_clock, promise, sent_on}
use Rattle.dv_conservative.specs.Promise.{foreseen}
use Rattle.dv_conservative.specs.Sound.{AllReceivedNumbers, IsSoundShare}
use Rattle.dv_conservative.specs.Turn.{AllMayBecome, AllPromised, IsTurnOf, Position, all_free, some_prepared}
use Rattle.dv_proc.proofs.Ending.{AreNumbered, all_stand, caught_numbers, links_end, tail_beside}
use Rattle.dv_proc.proofs.Moving.{caught_at_rest, links_caught, numbers_kept, pending_kept, rose, run_there}
use Rattle.dv_proc.proofs.Runs.{brings_alike}
use Rattle.dv_proc.proofs.Silent.{silent_after}
use Rattle.dv_proc.specs.Advancing.{AreBeside, IsAdvance, IsFinished, IsFresh, IsKnown, IsSameLink}
use Rattle.dv_proc.specs.Arriving.{AreApart, AreClocked, incoming_numbers, received_by}
use Rattle.dv_proc.specs.Leaving.{ArePending, is_prepared, outgoing_numbers, position_by}
use Rattle.dv_proc.specs.Local.{IsLocalRun, View, brings_at, sent_at}
use Rattle.dv_proc.specs.Midway.{AllStand, AreCaught, IsMidway}
use Rattle.dv_proc.specs.Standing.{IsDue, IsFar, IsProcess, IsStanding}
use Rattle.dv_proc.specs.declared.incoming.Incoming.{Incoming}
use Rattle.dv_proc.specs.declared.outgoing.Outgoing.{Outgoing}

-- the promise that the code finds is the one that is meant
pub promise_found : (v : View) (received : ℕ → List Packet) (now upto : Time) (limit horizon m n : ℕ) → limit ≡ v.share.limit
    → horizon ≡ v.share.horizon →
    IsLocalRun v (events_by received) (rank v.share.limit now) → m ≡ least_clock v.share received → IsKnown v (rank limit now) m n →
    rank limit upto ≡ at_most (end_of limit horizon) (foreseen limit (rank limit now) v.components n v.share.response) →
    rank v.share.limit upto ≡ promise v.share received (rank v.share.limit now)
promise_found v received now upto limit horizon m n le he run me known e =
    let k = rank v.share.limit now in
    let there : IsKnown v k m n = subst (λ (l : ℕ). IsKnown v (rank l now) m n) le known in
    let far : rank v.share.limit upto
    ≡ at_most (end_of v.share.limit v.share.horizon) (foreseen v.share.limit k v.components n v.share.response)
    = ap (λ (l : ℕ). rank l upto) (sym le) ∙ e
    ∙ ap (λ (l : ℕ). at_most (end_of l horizon) (foreseen l (rank l now) v.components n v.share.response)) le
    ∙ ap (λ (h : ℕ). at_most (end_of v.share.limit h) (foreseen v.share.limit k v.components n v.share.response)) he in
    let until : known_until v.share received k ≡ n
    = known_at v.share received k n there.order (omega (arith, there.within, me))
    (λ j low less. sym (brings_alike v (events_by received) k run j low) ∙ there.none j low less)
    (λ nothing. there.some (brings_alike v (events_by received) k run n there.order ∙ nothing) ∙ me) in
    far
    ∙ ap (λ (cs : List Component). at_most (end_rank v.share) (foreseen v.share.limit k cs n v.share.response)) run.components
    ∙ ap (λ (c : ℕ). at_most (end_rank v.share) (foreseen v.share.limit k (components_by v.share (events_by received) k) c
    v.share.response)) (sym until)

finished_numbers : (emitted : Bool) (now upto : Time) (xs ys : List Outgoing) → AreBeside (λ j. IsFinished emitted now upto) xs ys →
    outgoing_numbers ys ≡ outgoing_numbers xs
finished_numbers emitted now upto [] [] h = refl
finished_numbers emitted now upto [] (y ∷ ys) h = let count : suc (length ys) ≡ 0 = h.0 in absurd (omega arith)
finished_numbers emitted now upto (x ∷ xs) [] h = let count : 0 ≡ suc (length xs) = h.0 in absurd (omega arith)
finished_numbers emitted now upto (x ∷ xs) (y ∷ ys) h =
    let first : IsFinished emitted now upto x y = h.1 0 x (omega arith) in
    ap (λ (n : ℕ). n ∷ outgoing_numbers ys) first.number
    ∙ ap (λ (ns : List ℕ). x.number ∷ ns)
    (finished_numbers emitted now upto xs ys (tail_beside (λ j. IsFinished emitted now upto) x y xs ys h))

same_numbers : (outs : List OutgoingAsMeant) (xs ys : List Outgoing) → outgoing_numbers ys ≡ outgoing_numbers xs → AreNumbered outs xs
    → AreNumbered outs ys
same_numbers [] [] [] e h = tt
same_numbers [] [] (y ∷ ys) e h = absurd (cc)
same_numbers [] (x ∷ xs) ys e h = absurd h
same_numbers (out ∷ outs) [] ys e h = absurd h
same_numbers (out ∷ outs) (x ∷ xs) [] e h = absurd (cc)
same_numbers (out ∷ outs) (x ∷ xs) (y ∷ ys) e h =
    let head : y.number ≡ x.number = cc in
    let tail : outgoing_numbers ys ≡ outgoing_numbers xs = cc in
    (h.0 ∙ sym head, same_numbers outs xs ys tail h.1)

-- a turn ends
module _ (v : View) (is : List Incoming) (xs ys : List Outgoing) (emitted : Bool) (clock now upto : Time)
    (midway : IsMidway v is xs emitted now)
    (of_run : IsOfRun v.share.limit upto) (far : rank v.share.limit upto ≡ promise v.share (received_by is) (rank v.share.limit now))
    (ends : AreBeside (λ j. IsFinished emitted now upto) xs ys) where
  abbrev s : Share
  s = v.share

  abbrev received : ℕ → List Packet
  received = received_by is

  abbrev k : ℕ
  k = rank v.share.limit now

  later : min (suc k) (end_rank v.share) ≤ rank v.share.limit upto
  later = subst (λ (n : ℕ). min (suc k) (end_rank v.share) ≤ n) (sym far)
      (promise_later midway.sound.0 v.share (received_by is) midway.sound.1 midway.numbers k midway.heard)

  last : rank v.share.limit upto ≤ end_rank v.share
  last = subst (λ (n : ℕ). n ≤ end_rank v.share) (sym far) (promise_within v.share (received_by is) k)

  silent : (out : OutgoingAsMeant) (n : ℕ) → min (suc k) (end_rank v.share) ≤ n → n < rank v.share.limit upto →
      in_order (sent_on v.share (events_by (received_by is)) out n) ≡ []
  silent out n low less =
      silent_after midway.sound.0 v.share (received_by is) midway.sound.1 midway.numbers k out n (omega (arith, last)) (omega (arith, far))

  stay : outgoing_numbers ys ≡ outgoing_numbers xs
  stay = finished_numbers emitted now upto xs ys ends

  apart_after : AreApart (outgoing_numbers ys)
  apart_after = subst AreApart (sym stay) midway.away

  numbered : AreNumbered v.share.outgoing xs
  numbered = caught_numbers v.share (events_by (received_by is)) (min (suc k) (end_rank v.share)) emitted now v.share.outgoing xs
      midway.caught

  links : ArePending v.share (events_by (received_by is)) (min (suc k) (end_rank v.share)) v.share.outgoing ys
      × AllMayBecome v.share (received_by is) (position_by clock xs) (position_by now ys) v.share.outgoing
      × AllPromised v.share (received_by is) (position_by clock xs) (position_by now ys) v.share.outgoing
      × (some_prepared (position_by clock xs) (position_by now ys) v.share.outgoing ≡ list_any (is_prepared upto) xs)
      × (all_free (position_by now ys) v.share.outgoing ≡ list_all (λ (o : Outgoing). is_none o.standing) ys)
  links =
      links_end v.share (received_by is) clock now upto emitted of_run far later last silent (position_by clock xs) (position_by now ys)
      refl
      v.share.outgoing xs ys
      (all_stand clock v.share.outgoing xs numbered midway.away)
      (all_stand now v.share.outgoing ys (same_numbers v.share.outgoing xs ys stay numbered) apart_after)
      midway.caught ends

  pub process_ended : IsProcess v is ys now
  process_ended = record {
    standing = record {
      sound = midway.sound;
      linked = midway.linked;
      apart = midway.apart;
      clocked = midway.clocked;
      numbers = midway.numbers;
      within = midway.within;
      heard = midway.heard;
      away = apart_after;
      pending = links.0;
    };
    run = midway.run;
  }

  pub turn_ended : rank v.share.limit clock ≤ k → (k ≡ least_clock v.share (received_by is)) ⊎ (rank v.share.limit clock < k) →
      IsTurnOf v.share (received_by is) (position_by clock xs) (position_by now ys)
  turn_ended rises goes = record {
    may = record { rises = rises; within = midway.within; heard = midway.heard; links = links.1 };
    must = record { clock = goes; links = links.2 };
  }

  pub prepared_ended : some_prepared (position_by clock xs) (position_by now ys) v.share.outgoing ≡ list_any (is_prepared upto) xs
  prepared_ended = links.3

  pub free_ended : all_free (position_by now ys) v.share.outgoing ≡ list_all (λ (o : Outgoing). is_none o.standing) ys
  free_ended = links.4

-- where the clock is the least channel clock a turn stays
pub midway_rest : (v : View) (is : List Incoming) (os : List Outgoing) (clock : Time) → IsProcess v is os clock
    → IsMidway v is os false clock
midway_rest v is os clock process = record {
  sound = process.standing.sound;
  linked = process.standing.linked;
  apart = process.standing.apart;
  clocked = process.standing.clocked;
  numbers = process.standing.numbers;
  within = process.standing.within;
  heard = process.standing.heard;
  away = process.standing.away;
  caught = caught_at_rest v.share (events_by (received_by is)) (min (suc (rank v.share.limit clock)) (end_rank v.share)) clock
      v.share.outgoing os
      process.standing.pending;
  run = process.run;
}

-- a process whose links have more room
pub process_roomy : (v : View) (is : List Incoming) (xs ys : List Outgoing) (clock : Time) → IsProcess v is xs clock
    → AreBeside (λ j. IsSameLink) xs ys →
    IsProcess v is ys clock
process_roomy v is xs ys clock process same = record {
  standing = record {
    sound = process.standing.sound;
    linked = process.standing.linked;
    apart = process.standing.apart;
    clocked = process.standing.clocked;
    numbers = process.standing.numbers;
    within = process.standing.within;
    heard = process.standing.heard;
    away = subst AreApart (sym (numbers_kept xs ys same)) process.standing.away;
    pending = pending_kept v.share (events_by (received_by is)) (min (suc (rank v.share.limit clock)) (end_rank v.share)) v.share.outgoing
        xs ys same
        process.standing.pending;
  };
  run = process.run;
}

-- the clock moved on
module _ (v w : View) (is : List Incoming) (xs ys : List Outgoing) (clock now : Time) (process : IsProcess v is xs clock)
    (same : AreBeside (λ j. IsSameLink) xs ys) (limit m : ℕ) (le : limit ≡ v.share.limit) (me : m ≡ least_clock v.share (received_by is))
    (before : rank limit clock < m) (moved : IsAdvance (rank limit clock) m v w (rank limit now)) (of_run : IsOfRun limit now) where
  abbrev events : ℕ → List Event
  events = events_by (received_by is)

  le_w : limit ≡ w.share.limit
  le_w = le ∙ sym (ap (λ (s : Share). s.limit) moved.instant.share)

  run_v : IsLocalRun v (events_by (received_by is)) (rank limit clock)
  run_v = subst (λ (l : ℕ). IsLocalRun v (events_by (received_by is)) (rank l clock)) (sym le) process.run

  pub rose_past : rank limit clock < rank limit now
  rose_past =
      let up = rose process.standing.sound.0 v w (events_by (received_by is)) (rank limit clock) m (rank limit now) run_v before moved
      process.standing.sound.1 in
      omega arith

  least_w : least_clock w.share (received_by is) ≡ least_clock v.share (received_by is)
  least_w = ap (λ (s : Share). least_clock s (received_by is)) moved.instant.share

  run_w : IsLocalRun w (events_by (received_by is)) (rank limit now)
  run_w = run_there process.standing.sound.0 v w (events_by (received_by is)) (rank limit clock) m (rank limit now) run_v before moved
      process.standing.sound.1

  ended : rank limit now ≤ end_rank w.share
  ended =
      let same_end : end_rank w.share ≡ end_rank v.share = ap (λ (s : Share). end_rank s) moved.instant.share in
      omega (arith, moved.next.within, me, least_within v.share (received_by is))

  of_run_w : IsOfRun w.share.limit now
  of_run_w = subst (λ (l : ℕ). IsOfRun l now) le_w of_run

  at_w : rank w.share.limit now ≡ rank limit now
  at_w = ap (λ (l : ℕ). rank l now) (sym le_w)

  waited : ArePending w.share (events_by (received_by is)) (suc (rank limit clock)) w.share.outgoing ys
  waited =
      let here : rank v.share.limit clock ≡ rank limit clock = ap (λ (l : ℕ). rank l clock) (sym le) in
      let until : min (suc (rank v.share.limit clock)) (end_rank v.share) ≡ suc (rank limit clock)
      = omega (arith, me, before, here, least_within v.share (received_by is)) in
      subst (λ (s : Share). ArePending s (events_by (received_by is)) (suc (rank limit clock)) s.outgoing ys) (sym moved.instant.share)
      (pending_kept v.share (events_by (received_by is)) (suc (rank limit clock)) v.share.outgoing xs ys same
      (subst (λ (n : ℕ). ArePending v.share (events_by (received_by is)) n v.share.outgoing xs) until process.standing.pending))

  pub midway_moved : (emitted : Bool) → emitted ≡ nat_lt (rank limit now) (end_rank w.share) →
      (emitted ≡ true → (j : ℕ) (d : Outgoing) → j < length ys → IsFresh w (sent_at w (rank limit now)) now j (get_or ys j d)) →
      IsMidway w is ys emitted now
  midway_moved emitted e fresh = record {
    sound = (process.standing.sound.0, subst (IsSoundShare process.standing.sound.0) (sym moved.instant.share) process.standing.sound.1);
    linked = ap (λ (s : Share). s.incoming) moved.instant.share ∙ process.standing.linked;
    apart = process.standing.apart;
    clocked = subst (λ (s : Share). AreClocked s.limit is) (sym moved.instant.share) process.standing.clocked;
    numbers = subst (λ (s : Share). AllReceivedNumbers (received_by is) s.incoming) (sym moved.instant.share) process.standing.numbers;
    within = (of_run_w, subst (λ (n : ℕ). n ≤ end_rank w.share) (sym at_w) ended);
    heard = subst (λ (n : ℕ). n ≤ least_clock w.share (received_by is)) (sym at_w) (omega (arith, moved.next.within, me, least_w));
    away = subst AreApart (sym (numbers_kept xs ys same)) process.standing.away;
    caught = subst (λ (n : ℕ). AreCaught w.share (events_by (received_by is)) (min (suc n) (end_rank w.share)) emitted now
        w.share.outgoing ys) (sym at_w)
        (links_caught process.standing.sound.0 v w (events_by (received_by is)) (rank limit clock) m (rank limit now) run_v before moved
        process.standing.sound.1 now of_run_w at_w emitted e ended w.share.outgoing ys waited
        (λ yes j d lt out there. (fresh yes j d lt).fresh out there));
    run = subst (λ (n : ℕ). IsLocalRun w (events_by (received_by is)) n) (sym at_w) run_w;
  }

  -- the clock is the least channel clock, or something is due there
  pub far_moved : IsFar v.share (received_by is) (rank limit now)
  far_moved =
      subst (λ (s : Share). IsFar s (received_by is) (rank limit now)) moved.instant.share
      (elim moved.next.due [
        | inl reached ↦ inl (reached ∙ me ∙ sym least_w)
        | inr due ↦ elim due [
          | inl at ↦ inr (inl (subst (λ (cs : List Component). is_at (rank limit now) (least_next cs) ≡ true) run_w.components at))
          | inr comes ↦ inr (inr (sym (brings_alike w (events_by (received_by is)) (rank limit now) run_w (rank limit now) (omega arith))
              ∙ comes.1))
        ]
      ])
