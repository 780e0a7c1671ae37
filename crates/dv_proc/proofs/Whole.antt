-- A turn, in the terms of the code.
use Rattle.std.proofs.Common.{◌≡◌, ◌⊎◌, inl, inr, ℕ, zero, suc, ◌+◌, ◌-◌, ◌<◌, ◌≤◌, min, Bool, true, false, not, ◌&&◌, ◌||◌}
use Rattle.std.proofs.Common.{cond, nat_eq, nat_lt, take, drop, get_or, length, List, [], ◌∷◌, ◌++◌, append-nil, IsTrue, refl}
use Rattle.std.proofs.Common.{ap, sym, ◌∙◌, subst, arith}
use Rattle.std.specs.List.{list_all, list_any}
use Rattle.std.specs.Prelude.{is_none}
use Rattle.std.proofs.lemmas.Bool.Decides.{nat_tests}
use Rattle.dv_time.specs.Time.{IsOfRun, end_of, rank, time_of}
use Rattle.dv_time.specs.declared.time.Time.{Time}
use Rattle.dv_conservative.proofs.Settled.{least_within}
use Rattle.dv_conservative.specs.Events.{Event}
use Rattle.dv_conservative.specs.Process.{IsWithin, Share, at_most, end_rank, events_by, least_clock, least_of, promise}
use Rattle.dv_conservative.specs.Promise.{foreseen}
use Rattle.dv_conservative.specs.Turn.{Done, IsTurnOf, Moved, Position, Turned, Waiting, all_free, some_prepared, turned}
use Rattle.dv_devs.proofs.NextTimes.{rank_at_time, time_of_run}
use Rattle.dv_proc.proofs.Arrived.{nothing_left}
use Rattle.dv_proc.proofs.Received.{least_meant}
use Rattle.dv_proc.proofs.Turns.{free_ended, prepared_ended, process_ended, promise_found, turn_ended}
use Rattle.dv_proc.specs.Advancing.{AreBeside, IsFinished, IsKnown}
use Rattle.dv_proc.specs.Arriving.{AreClocked, incoming_numbers, least_among, received_by}
use Rattle.dv_proc.specs.Leaving.{is_prepared, position_by}
use Rattle.dv_proc.specs.Local.{View}
use Rattle.dv_proc.specs.Midway.{IsMidway}
use Rattle.dv_proc.specs.Standing.{IsProcess, IsStanding}
use Rattle.dv_proc.specs.declared.incoming.Incoming.{Incoming}
use Rattle.dv_proc.specs.declared.outgoing.Outgoing.{Outgoing}

take_whole : (n : ℕ) (xs : List Outgoing) → length xs ≤ n → take n xs ≡ xs
take_whole zero [] h = refl
take_whole zero (x ∷ xs) h = absurd (omega arith)
take_whole (suc n) [] h = refl
take_whole (suc n) (x ∷ xs) h = ap (λ (ys : List Outgoing). x ∷ ys) (take_whole n xs (omega arith))

-- a whole list written back
pub written_back : (len : ℕ) (now old : List Outgoing) → length now ≡ length old → len ≡ length old
    → take len (now ++ drop (length now) old) ≡ now
written_back len now old e f =
    ap (λ (zs : List Outgoing). take len (now ++ zs)) (nothing_left (length now) old (omega arith))
    ∙ ap (take len) (append-nil now) ∙ take_whole len now (omega arith)

-- the least channel clock that the code finds
pub least_is : (s : Share) (is xs : List Incoming) (os : List Outgoing) (clock : Time) → IsStanding s is os clock → (limit horizon r : ℕ) →
    limit ≡ s.limit → horizon ≡ s.horizon → xs ≡ is → r ≡ least_among limit (end_of limit horizon) xs → r ≡ least_clock s (received_by is)
least_is s is xs os clock standing limit horizon r le he same e =
    e ∙ ap (λ (ys : List Incoming). least_among limit (end_of limit horizon) ys) same
    ∙ ap (λ (l : ℕ). least_among l (end_of l horizon) is) le
    ∙ ap (λ (h : ℕ). least_among s.limit (end_of s.limit h) is) he
    ∙ least_meant s.limit (end_rank s) is standing.apart standing.clocked
    ∙ ap (λ (ls : List ℕ). least_of s.limit (end_rank s) ls (received_by is)) (sym standing.linked)

-- it is not past the end
pub least_before_end : (s : Share) (is : List Incoming) (limit horizon r : ℕ) → limit ≡ s.limit → horizon ≡ s.horizon →
    r ≡ least_clock s (received_by is) → r ≤ end_of limit horizon
least_before_end s is limit horizon r le he e =
    let last : end_of limit horizon ≡ end_rank s = ap (λ (l : ℕ). end_of l horizon) le ∙ ap (end_of s.limit) he in
    omega (arith, least_within s (received_by is))

-- a time of the run is the end, where it is not before it
at_end : (v : View) (now : Time) (limit horizon : ℕ) → limit ≡ v.share.limit → horizon ≡ v.share.horizon →
    rank v.share.limit now ≤ end_rank v.share → (b : Bool) → b ≡ nat_lt (rank limit now) (end_of limit horizon) →
    not b ≡ nat_eq (rank v.share.limit now) (end_rank v.share)
at_end v now limit horizon le he within b h =
    let last : end_of limit horizon ≡ end_rank v.share = ap (λ (l : ℕ). end_of l horizon) le ∙ ap (end_of v.share.limit) he in
    let here : rank v.share.limit now ≡ rank limit now = ap (λ (l : ℕ). rank l now) (sym le) in
    ap not h ∙ ap (λ (i : ℕ). not (nat_lt i (end_of limit horizon))) (sym here)
    ∙ ap (λ (i : ℕ). not (nat_lt (rank v.share.limit now) i)) last
    ∙ not_before (rank v.share.limit now) (end_rank v.share) within
  where
    not_before : (i j : ℕ) → i ≤ j → not (nat_lt i j) ≡ nat_eq i j
    not_before i j le = grind (arith, nat_tests)

-- the answer, from what the code finds of the positions before and after
answer_by : (s : Share) (x y : Position) (ended free rose prepared : Bool) → ended ≡ nat_eq (rank s.limit y.clock) (end_rank s) →
    free ≡ all_free y s.outgoing → rose ≡ nat_lt (rank s.limit x.clock) (rank s.limit y.clock) →
    prepared ≡ some_prepared x y s.outgoing → cond (ended && free) Done (cond (rose || prepared) Moved Waiting) ≡ turned s x y
answer_by s x y ended free rose prepared e f r p =
    ap (λ (t : Bool). cond (t && free) Done (cond (rose || prepared) Moved Waiting)) e
    ∙ ap (λ (t : Bool). cond (nat_eq (rank s.limit y.clock) (end_rank s) && t) Done (cond (rose || prepared) Moved Waiting)) f
    ∙ ap (λ (t : Bool).
    cond (nat_eq (rank s.limit y.clock) (end_rank s) && all_free y s.outgoing) Done (cond (t || prepared) Moved Waiting)) r
    ∙ ap (λ (t : Bool).
    cond (nat_eq (rank s.limit y.clock) (end_rank s) && all_free y s.outgoing) Done
    (cond (nat_lt (rank s.limit x.clock) (rank s.limit y.clock) || t) Moved Waiting)) p

module _ (v : View) (is : List Incoming) (xs ms ys : List Outgoing) (emitted : Bool) (clock now upto : Time)
    (midway : IsMidway v is xs emitted now)
    (limit horizon m n : ℕ) (le : limit ≡ v.share.limit) (he : horizon ≡ v.share.horizon) (me : m ≡ least_clock v.share (received_by is))
    (known : IsKnown v (rank limit now) m n)
    (e : rank limit upto ≡ at_most (end_of limit horizon) (foreseen limit (rank limit now) v.components n v.share.response))
    (of_run : IsOfRun limit upto) (same : ms ≡ xs) (ends : AreBeside (λ j. IsFinished emitted now upto) ms ys)
    (heard : rank limit clock ≤ m) (goes : (rank limit now ≡ m) ⊎ (rank limit clock < rank limit now)) where
  of_run_v : IsOfRun v.share.limit upto
  of_run_v = subst (λ (l : ℕ). IsOfRun l upto) le of_run

  far : rank v.share.limit upto ≡ promise v.share (received_by is) (rank v.share.limit now)
  far = promise_found v (received_by is) now upto limit horizon m n le he midway.run me known e

  finished : AreBeside (λ j. IsFinished emitted now upto) xs ys
  finished = subst (λ (zs : List Outgoing). AreBeside (λ j. IsFinished emitted now upto) zs ys) same ends

  at_now : rank v.share.limit now ≡ rank limit now
  at_now = ap (λ (l : ℕ). rank l now) (sym le)

  at_clock : rank v.share.limit clock ≡ rank limit clock
  at_clock = ap (λ (l : ℕ). rank l clock) (sym le)

  rises : rank v.share.limit clock ≤ rank v.share.limit now
  rises = elim goes [ inl last ↦ omega (arith, at_now, at_clock) | inr up ↦ omega (arith, at_now, at_clock) ]

  goes_v : (rank v.share.limit now ≡ least_clock v.share (received_by is)) ⊎ (rank v.share.limit clock < rank v.share.limit now)
  goes_v = elim goes [ inl last ↦ inl (at_now ∙ last ∙ me) | inr up ↦ inr (omega (arith, at_now, at_clock)) ]

  pub whole_process : IsProcess v is ys now
  whole_process = process_ended v is xs ys emitted clock now upto midway of_run_v far finished

  pub whole_turn : IsTurnOf v.share (received_by is) (position_by clock xs) (position_by now ys)
  whole_turn = turn_ended v is xs ys emitted clock now upto midway of_run_v far finished rises goes_v

  pub whole_answer : (before free rose prepared : Bool) → before ≡ nat_lt (rank limit now) (end_of limit horizon) →
      free ≡ list_all (λ (o : Outgoing). is_none o.standing) ys → rose ≡ nat_lt (rank limit clock) (rank limit now) →
      prepared ≡ list_any (is_prepared upto) xs →
      cond (not before && free) Done (cond (rose || prepared) Moved Waiting) ≡ turned v.share (position_by clock xs) (position_by now ys)
  whole_answer before free rose prepared b f r p =
      answer_by v.share (position_by clock xs) (position_by now ys) (not before) free rose prepared
      (at_end v now limit horizon le he midway.within.1 before b)
      (f ∙ sym (free_ended v is xs ys emitted clock now upto midway of_run_v far finished))
      (r ∙ ap (λ (i : ℕ). nat_lt i (rank limit now)) (sym at_clock) ∙ ap (nat_lt (rank v.share.limit clock)) (sym at_now))
      (p ∙ sym (prepared_ended v is xs ys emitted clock now upto midway of_run_v far finished))

-- a turn of a process from which no link leads away
module _ (v : View) (is : List Incoming) (xs : List Outgoing) (emitted : Bool) (clock now : Time) (midway : IsMidway v is xs emitted now)
    (none : length xs ≡ 0) (limit horizon m : ℕ) (le : limit ≡ v.share.limit) (he : horizon ≡ v.share.horizon)
    (me : m ≡ least_clock v.share (received_by is)) (heard : rank limit clock ≤ m)
    (goes : (rank limit now ≡ m) ⊎ (rank limit clock < rank limit now)) where
  abbrev until : Time
  until = time_of v.share.limit (promise v.share (received_by is) (rank v.share.limit now))

  until_of_run : IsOfRun v.share.limit until
  until_of_run = time_of_run v.share.limit (promise v.share (received_by is) (rank v.share.limit now))

  until_far : rank v.share.limit until ≡ promise v.share (received_by is) (rank v.share.limit now)
  until_far = rank_at_time v.share.limit (promise v.share (received_by is) (rank v.share.limit now))

  unfinished : AreBeside (λ j. IsFinished emitted now until) xs xs
  unfinished = (refl, λ j d lt. absurd (omega (arith, none)))

  now_is : rank v.share.limit now ≡ rank limit now
  now_is = ap (λ (l : ℕ). rank l now) (sym le)

  clock_is : rank v.share.limit clock ≡ rank limit clock
  clock_is = ap (λ (l : ℕ). rank l clock) (sym le)

  rises_alone : rank v.share.limit clock ≤ rank v.share.limit now
  rises_alone = elim goes [ inl last ↦ omega (arith, now_is, clock_is) | inr up ↦ omega (arith, now_is, clock_is) ]

  goes_alone : (rank v.share.limit now ≡ least_clock v.share (received_by is)) ⊎ (rank v.share.limit clock < rank v.share.limit now)
  goes_alone = elim goes [ inl last ↦ inl (now_is ∙ last ∙ me) | inr up ↦ inr (omega (arith, now_is, clock_is)) ]

  pub alone_process : IsProcess v is xs now
  alone_process = process_ended v is xs xs emitted clock now until midway until_of_run until_far unfinished

  pub alone_turn : IsTurnOf v.share (received_by is) (position_by clock xs) (position_by now xs)
  alone_turn = turn_ended v is xs xs emitted clock now until midway until_of_run until_far unfinished rises_alone goes_alone

  no_link : (f : Outgoing → Bool) → (list_all f xs ≡ true) × (list_any f xs ≡ false)
  no_link f = ends xs none
    where
      ends : (ys : List Outgoing) → length ys ≡ 0 → (list_all f ys ≡ true) × (list_any f ys ≡ false)
      ends [] e = (refl, refl)
      ends (y ∷ ys) e = absurd (omega arith)

  pub alone_answer : (before rose : Bool) → before ≡ nat_lt (rank limit now) (end_of limit horizon) →
      rose ≡ nat_lt (rank limit clock) (rank limit now) →
      cond (not before && true) Done (cond (rose || false) Moved Waiting) ≡ turned v.share (position_by clock xs) (position_by now xs)
  alone_answer before rose b r =
      answer_by v.share (position_by clock xs) (position_by now xs) (not before) true rose false
      (at_end v now limit horizon le he midway.within.1 before b)
      (sym (no_link (λ (o : Outgoing). is_none o.standing)).0
      ∙ sym (free_ended v is xs xs emitted clock now until midway until_of_run until_far unfinished))
      (r ∙ ap (λ (i : ℕ). nat_lt i (rank limit now)) (sym clock_is) ∙ ap (nat_lt (rank v.share.limit clock)) (sym now_is))
      (sym (no_link (is_prepared until)).1
      ∙ sym (prepared_ended v is xs xs emitted clock now until midway until_of_run until_far unfinished))
