-- What each round does to clocks and windows.
use Rattle.std.proofs.Common.{◌≡◌, ◌⊎◌, inl, inr, ℕ, suc, zero, ◌+◌, ◌<◌, ◌≤◌, min, Bool, true, false, cond, nat_eq, nat_lt}
use Rattle.std.proofs.Common.{List, [], ◌∷◌, ◌++◌, append-nil, length, Option, Some, None, refl, sym, ap, subst, ◌∙◌, arith}
use Rattle.std.specs.List.{slice_get}
use Rattle.std.proofs.lemmas.Bool.{cases_lt}
use Rattle.std.proofs.lemmas.Bool.Decides.{nat_tests}
use Rattle.dv_time.specs.Time.{end_of, rank, time_of}
use Rattle.dv_time.specs.declared.time.Time.{Time}
use Rattle.dv_time.proofs.Ranks.{time_of-rank}
use Rattle.dv_conservative.specs.Process.{Packet, channel_clock, clock_after, events_by, first_time, packet_of}
use Rattle.dv_conservative.specs.Rounds.{AllHaveSources, AreRounds, HadMemory, IsDriven, Progressed, moves_from, round, turns_from}
use Rattle.dv_conservative.specs.Turn.{IsPromised, Progresses}
use Rattle.dv_conservative.specs.World.{Answers, AnswersBy, Channel, IsMove, IsStep, IsTurn, Job, LinkState, Reply, Step, World}
use Rattle.dv_conservative.specs.World.{Turn, Put, Take, Done, Refused, Stopped, Empty, Full, Memory, after_put, after_take}
use Rattle.dv_conservative.specs.World.{all_of, new_world, of_link, outgoing_on, packets_in, position_in, promised_on}
use Rattle.dv_conservative.specs.World.{put_reply, received_in, refusal, share_of, take_reply, took_front, with_standing}
use Rattle.dv_conservative.proofs.Holding.{made_all, put_all, took_all}
use Rattle.dv_conservative.proofs.Lists.{least_at_least, promised_of, source_of}
use Rattle.dv_conservative.proofs.Local.{same_number}

last_clock : (start : Time) (ps : List Packet) (p : Packet) → clock_after start (ps ++ p ∷ []) ≡ p.upto
last_clock start [] p = refl
last_clock start (q ∷ ps) p = last_clock q.upto ps p

-- where a packet is prepared, its end is promised
made_clock : (x : LinkState) (p : Packet) → x.standing ≡ None → promised_on (with_standing x p) ≡ p.upto
made_clock x p none = ap (clock_after first_time) (made_all x p none) ∙ last_clock first_time (all_of x) p

-- steps, one list after another
driven_append : (job : Job) (ss ts : List Step) (w v : World) → IsDriven job (ss ++ ts) w v →
    (u : World) × IsDriven job ss w u × IsDriven job ts u v
driven_append job [] ts w v h = (w, refl, h)
driven_append job (s ∷ ss) ts w v h =
    let rest = driven_append job ss ts h.0 v h.5 in
    (rest.0, (h.0, h.1, h.2, h.3, h.4, rest.1), rest.2)

module _ (job : Job) (sources : AllHaveSources job.processes job.channels) where
  abbrev last : ℕ
  last = end_of job.limit job.horizon

  abbrev IsChannel : ℕ → Channel → Type 0
  IsChannel l c = slice_get job.channels l ≡ Some c

  -- while turns are taken in a round, after so many rounds
  record Turning (k : ℕ) (w : World) : Type 0 where
    running : (p : ℕ) → w.stopped p ≡ false
    within : (p : ℕ) → (w.clock p).micro ≤ job.limit
    before_end : (p : ℕ) → rank job.limit (w.clock p) ≤ last
    clocks : (p : ℕ) → p < job.processes → min k (suc last) ≤ suc (rank job.limit (w.clock p))
    heard : (l : ℕ) (c : Channel) → IsChannel l c → min k last ≤ rank job.limit (channel_clock (received_in w l))
    empty : (l : ℕ) (c : Channel) → IsChannel l c → (w.link l).queued ≡ []
    room : (l : ℕ) → 0 < (w.link l).capacity
    free : (l : ℕ) (c : Channel) → IsChannel l c →
        ((w.link l).standing ≡ None) ⊎ (min (suc k) last ≤ rank job.limit (promised_on (w.link l)))

  -- a process whose turn was taken
  record HasTurned (k p : ℕ) (w : World) : Type 0 where
    clock : min (suc k) (suc last) ≤ suc (rank job.limit (w.clock p))
    promised : (l : ℕ) (c : Channel) → IsChannel l c → c.source ≡ p → min (suc k) last ≤ rank job.limit (promised_on (w.link l))

  -- what is promised does not fall
  promised_rises : (p : ℕ) (w v : World) → IsTurn job p w v → (l : ℕ) →
      rank job.limit (promised_on (w.link l)) ≤ rank job.limit (promised_on (v.link l))
  promised_rises p w v turn l = elim (turn.links l) [
    | inl same ↦
        let eq : rank job.limit (promised_on (w.link l)) ≡ rank job.limit (promised_on (v.link l))
        = ap (λ (x : LinkState). rank job.limit (promised_on x)) (sym same) in
        omega arith
    | inr made ↦
        let one = made.prepared in
        let packet = packet_of (share_of job p) (events_by (received_in w)) (outgoing_on job l made.channel)
        (promised_on (w.link l)) one.upto in
        let eq : rank job.limit (promised_on (v.link l)) ≡ rank job.limit one.upto
        = ap (λ (x : LinkState). rank job.limit (promised_on x)) one.made ∙ ap (rank job.limit) (made_clock (w.link l) packet one.free) in
        omega (arith, one.later)
  ]

  -- what was received, what is queued and the room stay
  link_kept : (p : ℕ) (w v : World) → IsTurn job p w v → (l : ℕ) →
      (received_in v l ≡ received_in w l) × ((v.link l).queued ≡ (w.link l).queued) × ((v.link l).capacity ≡ (w.link l).capacity)
  link_kept p w v turn l = elim (turn.links l) [
    | inl same ↦ (ap (λ (x : LinkState). x.received) same, ap (λ (x : LinkState). x.queued) same, ap (λ (x : LinkState). x.capacity) same)
    | inr made ↦
        let one = made.prepared in (
          ap (λ (x : LinkState). x.received) one.made,
          ap (λ (x : LinkState). x.queued) one.made,
          ap
              (λ (x : LinkState). x.capacity) one.made,
        )
  ]

  clock_after_turn : (k p : ℕ) (w v : World) → p < job.processes → Turning k w → IsTurn job p w v →
      Progresses (share_of job p) (received_in w) (position_in w p) (position_in v p) →
      min (suc k) (suc last) ≤ suc (rank job.limit (v.clock p))
  clock_after_turn k p w v lt at turn must =
      let least = least_at_least job.limit last p (min k last) (received_in w) 0 job.channels (omega arith) (λ i c e.
      let number : i ≡ 0 + i = omega arith in
      subst (λ (n : ℕ). min k last ≤ rank job.limit (channel_clock (received_in w n))) number (at.heard i c e)) in
      elim must.clock [
        | inl same ↦ omega (arith, least)
        | inr later ↦ omega (arith, at.clocks p lt)
      ]

  promised_after_turn : (k p : ℕ) (w v : World) → Turning k w → IsTurn job p w v →
      Progresses (share_of job p) (received_in w) (position_in w p) (position_in v p) →
      min (suc k) (suc last) ≤ suc (rank job.limit (v.clock p))
      → (l : ℕ) (c : Channel) → IsChannel l c → c.source ≡ p → min (suc k) last ≤ rank job.limit (promised_on (v.link l))
  promised_after_turn k p w v at turn must clock l c e own = elim (at.free l c e) [
    | inl none ↦
        let source : nat_eq c.source p ≡ true = grind (arith, nat_tests) in
        let number : 0 + l ≡ l = omega arith in
        let promised : IsPromised (share_of job p) (received_in w) (position_in w p) (position_in v p) (outgoing_on job l c)
        = subst (λ (n : ℕ). IsPromised (share_of job p) (received_in w) (position_in w p) (position_in v p) (outgoing_on job n c)) number
        (promised_of job (share_of job p) (received_in w) (position_in w p) (position_in v p) p 0 job.channels l c must.links e source) in
        let both = promised none in
        omega (arith, both.1)
    | inr already ↦ omega (arith, promised_rises p w v turn l)
  ]

  turn_keeps : (k p : ℕ) (w v : World) → p < job.processes → Turning k w → IsTurn job p w v →
      Progresses (share_of job p) (received_in w) (position_in w p) (position_in v p) → HasTurned k p v × Turning k v
  turn_keeps k p w v lt at turn must =
      let clock = clock_after_turn k p w v lt at turn must in
      let promised = promised_after_turn k p w v at turn must clock in (
        record { clock = clock; promised = promised },
        record {
          running = λ q. subst (λ (stopped : ℕ → Bool). stopped q ≡ false) (sym turn.stopped) (at.running q);
          within = λ q. by_within q (nat_eq q p) refl;
          before_end = λ q. by_end q (nat_eq q p) refl;
          clocks = λ q less. by_clock clock q less (nat_eq q p) refl;
          heard = λ l c e.
              let kept = link_kept p w v turn l in
              let eq : rank job.limit (channel_clock (received_in v l)) ≡ rank job.limit (channel_clock (received_in w l))
              = ap (λ (ps : List Packet). rank job.limit (channel_clock ps)) kept.0 in
              omega (arith, at.heard l c e);
          empty = λ l c e. let kept = link_kept p w v turn l in kept.1 ∙ at.empty l c e;
          room = λ l. let kept = link_kept p w v turn l in omega (arith, kept.2, at.room l);
          free = λ l c e. by_source promised l c e (nat_eq c.source p) refl;
        },
      )
    where
      by_within : (q : ℕ) (t : Bool) → nat_eq q p ≡ t → (v.clock q).micro ≤ job.limit
      by_within q true e =
          let same : q ≡ p = same_number q p e in
          subst (λ (i : ℕ). (v.clock i).micro ≤ job.limit) (sym same) turn.within.0
      by_within q false e = subst (λ (t : Time). t.micro ≤ job.limit) (sym (turn.others q e)) (at.within q)

      by_end : (q : ℕ) (t : Bool) → nat_eq q p ≡ t → rank job.limit (v.clock q) ≤ last
      by_end q true e =
          let same : q ≡ p = same_number q p e in
          subst (λ (i : ℕ). rank job.limit (v.clock i) ≤ last) (sym same) turn.within.1
      by_end q false e = subst (λ (t : Time). rank job.limit t ≤ last) (sym (turn.others q e)) (at.before_end q)

      by_clock : min (suc k) (suc last) ≤ suc (rank job.limit (v.clock p)) → (q : ℕ) → q < job.processes → (t : Bool) → nat_eq q p ≡ t →
          min k (suc last) ≤ suc (rank job.limit (v.clock q))
      by_clock clock q less true e =
          let same : q ≡ p = same_number q p e in
          subst (λ (i : ℕ). min k (suc last) ≤ suc (rank job.limit (v.clock i))) (sym same) (omega arith)
      by_clock clock q less false e =
          subst (λ (t : Time). min k (suc last) ≤ suc (rank job.limit t)) (sym (turn.others q e)) (at.clocks q less)

      by_source : ((l : ℕ) (c : Channel) → IsChannel l c → c.source ≡ p → min (suc k) last ≤ rank job.limit (promised_on (v.link l))) →
          (l : ℕ) (c : Channel) → IsChannel l c → (t : Bool) → nat_eq c.source p ≡ t →
          ((v.link l).standing ≡ None) ⊎ (min (suc k) last ≤ rank job.limit (promised_on (v.link l)))
      by_source promised l c e true own = inr (promised l c e (same_number c.source p own))
      by_source promised l c e false own = elim (turn.links l) [
        | inl same ↦ elim (at.free l c e) [
          | inl none ↦ inl (ap (λ (x : LinkState). x.standing) same ∙ none)
          | inr already ↦ inr (omega (arith, already, promised_rises p w v turn l))
        ]
        | inr made ↦
            let channel : made.channel ≡ c = cc in
            let source : c.source ≡ p = ap (λ (d : Channel). d.source) (sym channel) ∙ made.own in
            let itself : nat_eq c.source p ≡ true = grind (arith, nat_tests) in
            absurd (cc)
      ]

  -- a process whose turn was taken before
  turned_stays : (k q p : ℕ) (w v : World) → IsTurn job p w v → HasTurned k q w → HasTurned k q v
  turned_stays k q p w v turn was = record {
    clock = by_clock (nat_eq q p) refl;
    promised = λ l c e own. omega (arith, was.promised l c e own, promised_rises p w v turn l);
  }
    where
      by_clock : (t : Bool) → nat_eq q p ≡ t → min (suc k) (suc last) ≤ suc (rank job.limit (v.clock q))
      by_clock true e =
          let same : q ≡ p = same_number q p e in
          let eq : rank job.limit (w.clock q) ≡ rank job.limit (w.clock p) = ap (λ (i : ℕ). rank job.limit (w.clock i)) same in
          let now : rank job.limit (v.clock q) ≡ rank job.limit (v.clock p) = ap (λ (i : ℕ). rank job.limit (v.clock i)) same in
          omega (arith, was.clock, turn.rises)
      by_clock false e =
          let eq : rank job.limit (v.clock q) ≡ rank job.limit (w.clock q) = ap (rank job.limit) (turn.others q e) in
          omega (arith, was.clock)

  -- a turn with memory of a process that is there and runs is one
  turn_done : (w v : World) (p : ℕ) (reply : Reply) → nat_lt p job.processes ≡ true → w.stopped p ≡ false → IsStep job (Turn p) reply w v →
      HadMemory reply → Progressed job (Turn p) reply w v →
      IsTurn job p w v × Progresses (share_of job p) (received_in w) (position_in w p) (position_in v p)
  turn_done w v p reply there runs step had progressed =
      let none : refusal job w (Turn p) ≡ None = rw (there, runs) refl in
      by_reply reply (subst (λ (o : Option Reply). AnswersBy o job (Turn p) reply w v) none step) had progressed
    where
      by_reply : (reply : Reply) → Answers job (Turn p) reply w v → HadMemory reply → Progressed job (Turn p) reply w v →
          IsTurn job p w v × Progresses (share_of job p) (received_in w) (position_in w p) (position_in v p)
      by_reply Done h had progressed = (h, progressed)
      by_reply Refused h had progressed = absurd h
      by_reply Stopped h had progressed = absurd h
      by_reply Empty h had progressed = absurd h
      by_reply Full h had progressed = absurd h
      by_reply Memory h had progressed = absurd had

  -- all turns of a round
  all_turn : (k p n : ℕ) (w v : World) → p + n ≤ job.processes → Turning k w → ((q : ℕ) → q < p → HasTurned k q w) →
      IsDriven job (turns_from p n) w v → Turning k v × ((q : ℕ) → q < p + n → HasTurned k q v)
  all_turn k p zero w v le at was driven =
      (subst (Turning k) (sym driven) at, λ q lt. subst (HasTurned k q) (sym driven) (was q (omega arith)))
  all_turn k p (suc n) w v le at was driven =
      let there : nat_lt p job.processes ≡ true = grind (arith, nat_tests) in
      let done = turn_done w driven.0 p driven.1 there (at.running p) driven.2 driven.3 driven.4 in
      let kept = turn_keeps k p w driven.0 (omega arith) at done.0 done.1 in
      let rest = all_turn k (suc p) n driven.0 v (omega arith) kept.1
      (λ q lt. before q lt (was_or_is q lt) done.0 kept.0) driven.5 in
      (rest.0, λ q lt. rest.1 q (omega arith))
    where
      was_or_is : (q : ℕ) → q < suc p → (q < p) ⊎ (q ≡ p)
      was_or_is q lt = elim (cases_lt q p) [ inl less ↦ inl less | inr ge ↦ inr (omega arith) ]

      before : (q : ℕ) → q < suc p → (q < p) ⊎ (q ≡ p) → IsTurn job p w driven.0 → HasTurned k p driven.0 → HasTurned k q driven.0
      before q lt (inl less) turn now = turned_stays k q p w driven.0 turn (was q less)
      before q lt (inr same) turn now = subst (λ (i : ℕ). HasTurned k i driven.0) (sym same) now

  -- a link whose packet is put and taken
  record Pending (k l : ℕ) (w : World) : Type 0 where
    empty : (w.link l).queued ≡ []
    room : 0 < (w.link l).capacity
    promised : min (suc k) last ≤ rank job.limit (promised_on (w.link l))

  record Delivered (k l : ℕ) (w : World) : Type 0 where
    pending : Pending k l w
    free : (w.link l).standing ≡ None

  -- while puts and takes are made
  record Moving (k : ℕ) (w : World) : Type 0 where
    running : (p : ℕ) → w.stopped p ≡ false
    within : (p : ℕ) → (w.clock p).micro ≤ job.limit
    before_end : (p : ℕ) → rank job.limit (w.clock p) ≤ last
    clocks : (p : ℕ) → p < job.processes → min (suc k) (suc last) ≤ suc (rank job.limit (w.clock p))
    room : (l : ℕ) → 0 < (w.link l).capacity

  -- what becomes of a link
  abbrev IsOther : ℕ → World → World → Type 0
  IsOther l w v = (m : ℕ) → nat_eq m l ≡ false → v.link m ≡ w.link m

  record Moves (l : ℕ) (w v : World) : Type 0 where
    others : IsOther l w v
    clock : v.clock ≡ w.clock
    stopped : v.stopped ≡ w.stopped

  unmoved : (l : ℕ) (w v : World) → v ≡ w → Moves l w v
  unmoved l w v e = record {
    others = λ m d. ap (λ (x : World). x.link m) e;
    clock = ap (λ (x : World). x.clock) e;
    stopped = ap (λ (x : World). x.stopped) e;
  }

  then_moves : (l : ℕ) (w u v : World) → Moves l w u → Moves l u v → Moves l w v
  then_moves l w u v a b = record {
    others = λ m d. b.others m d ∙ a.others m d;
    clock = b.clock ∙ a.clock;
    stopped = b.stopped ∙ a.stopped;
  }

  moves_by : (l : ℕ) (after : LinkState) (w v : World) → IsMove l after w v → Moves l w v
  moves_by l after w v move = record { others = move.others; clock = move.clock; stopped = move.stopped }

  -- after a put, what stood is the queue
  record IsPut (k l : ℕ) (w v : World) : Type 0 where
    moves : Moves l w v
    queue : (v.link l).queued ≡ packets_in (w.link l).standing
    free : (v.link l).standing ≡ None
    room : 0 < (v.link l).capacity
    promised : min (suc k) last ≤ rank job.limit (promised_on (v.link l))

  put_nothing : (k l : ℕ) (w v : World) → Pending k l w → (w.link l).standing ≡ None → v ≡ w → IsPut k l w v
  put_nothing k l w v pending none same = record {
    moves = unmoved l w v same;
    queue = ap (λ (x : World). (x.link l).queued) same ∙ pending.empty ∙ sym (ap packets_in none);
    free = ap (λ (x : World). (x.link l).standing) same ∙ none;
    room = subst (λ (x : World). 0 < (x.link l).capacity) (sym same) pending.room;
    promised = subst (λ (x : World). min (suc k) last ≤ rank job.limit (promised_on (x.link l))) (sym same) pending.promised;
  }

  put_one : (k l : ℕ) (w v : World) → Pending k l w → IsMove l (after_put (w.link l)) w v → IsPut k l w v
  put_one k l w v pending move = record {
    moves = moves_by l (after_put (w.link l)) w v move;
    queue = ap (λ (x : LinkState). x.queued) move.link ∙ ap (λ (ps : List Packet). ps ++ packets_in (w.link l).standing) pending.empty;
    free = ap (λ (x : LinkState). x.standing) move.link;
    room = subst (λ (x : LinkState). 0 < x.capacity) (sym move.link) pending.room;
    promised =
        let eq : rank job.limit (promised_on (v.link l)) ≡ rank job.limit (promised_on (w.link l))
        = ap (λ (x : LinkState). rank job.limit (promised_on x)) move.link
        ∙ ap (λ (ps : List Packet). rank job.limit (clock_after first_time ps)) (put_all (w.link l)) in
        omega (arith, pending.promised);
  }

  put_done : (k l : ℕ) (c : Channel) (w v : World) (reply : Reply) → IsChannel l c → Moving k w → Pending k l w →
      IsStep job (Put l) reply w v → HadMemory reply → IsPut k l w v
  put_done k l c w v reply e at pending step had =
      by_standing (w.link l).standing refl
      (subst (λ (o : Option Reply). AnswersBy o job (Put l) reply w v) known step)
    where
      known : refusal job w (Put l) ≡ put_reply (w.link l) (w.link l).standing
      known =
          ap (λ (o : Option Channel). of_link w (λ c. c.source) o (put_reply (w.link l) (w.link l).standing)) e
          ∙ ap (λ (t : Bool). cond t (Some Stopped) (put_reply (w.link l) (w.link l).standing)) (at.running c.source)

      by_reply : (reply : Reply) → Answers job (Put l) reply w v → HadMemory reply → IsPut k l w v
      by_reply Done h had = put_one k l w v pending h
      by_reply Refused h had = absurd h
      by_reply Stopped h had = absurd h
      by_reply Empty h had = absurd h
      by_reply Full h had = absurd h
      by_reply Memory h had = absurd had

      by_standing : (o : Option Packet) → (w.link l).standing ≡ o → AnswersBy (put_reply (w.link l) o) job (Put l) reply w v → IsPut k l w v
      by_standing None none h = put_nothing k l w v pending none h.1
      by_standing (Some p) some h =
          let none : length (w.link l).queued ≡ 0 = ap length pending.empty in
          let has_room : nat_lt (length (w.link l).queued) (w.link l).capacity ≡ true = grind (arith, nat_tests, pending.room) in
          by_reply reply (rw has_room at h) had

  -- after a take, the queue is empty again
  take_nothing : (k l : ℕ) (w v : World) → (w.link l).queued ≡ [] → (w.link l).standing ≡ None → 0 < (w.link l).capacity →
      min (suc k) last ≤ rank job.limit (promised_on (w.link l)) → v ≡ w → Delivered k l v
  take_nothing k l w v empty free room promised same = record {
    pending = record {
      empty = ap (λ (x : World). (x.link l).queued) same ∙ empty;
      room = subst (λ (x : World). 0 < (x.link l).capacity) (sym same) room;
      promised = subst (λ (x : World). min (suc k) last ≤ rank job.limit (promised_on (x.link l))) (sym same) promised;
    };
    free = ap (λ (x : World). (x.link l).standing) same ∙ free;
  }

  take_one : (k l : ℕ) (w v : World) (p : Packet) → (w.link l).queued ≡ p ∷ [] → (w.link l).standing ≡ None → 0 < (w.link l).capacity →
      min (suc k) last ≤ rank job.limit (promised_on (w.link l)) → IsMove l (after_take (w.link l)) w v → Delivered k l v
  take_one k l w v p queue free room promised move =
      let after : v.link l ≡ took_front (w.link l) (p ∷ []) = move.link ∙ ap (took_front (w.link l)) queue in
      let eq : rank job.limit (promised_on (v.link l)) ≡ rank job.limit (promised_on (w.link l))
      = ap (λ (x : LinkState). rank job.limit (promised_on x)) after
      ∙ ap (λ (ps : List Packet). rank job.limit (clock_after first_time ps)) (took_all (w.link l) (p ∷ []) queue) in
      record {
        pending = record {
          empty = ap (λ (x : LinkState). x.queued) after;
          room = subst (λ (x : LinkState). 0 < x.capacity) (sym after) room;
          promised = omega (arith, promised);
        };
        free = ap (λ (x : LinkState). x.standing) after ∙ free;
      }

  take_done : (k l : ℕ) (c : Channel) (w v : World) (reply : Reply) (standing : Option Packet) → IsChannel l c →
      ((p : ℕ) → w.stopped p ≡ false) → (w.link l).queued ≡ packets_in standing → (w.link l).standing ≡ None → 0 < (w.link l).capacity →
      min (suc k) last ≤ rank job.limit (promised_on (w.link l)) →
      IsStep job (Take l) reply w v → HadMemory reply → Delivered k l v × Moves l w v
  take_done k l c w v reply standing e running queue free room promised step had =
      by_queue standing queue (subst (λ (o : Option Reply). AnswersBy o job (Take l) reply w v) (known ∙ ap take_reply queue) step)
    where
      known : refusal job w (Take l) ≡ take_reply (w.link l).queued
      known =
          ap (λ (o : Option Channel). of_link w (λ c. c.target) o (take_reply (w.link l).queued)) e
          ∙ ap (λ (t : Bool). cond t (Some Stopped) (take_reply (w.link l).queued)) (running c.target)

      by_reply : (p : Packet) → (w.link l).queued ≡ p ∷ [] → (reply : Reply) → Answers job (Take l) reply w v → HadMemory reply →
          Delivered k l v × Moves l w v
      by_reply p queue Done h had = (take_one k l w v p queue free room promised h, moves_by l (after_take (w.link l)) w v h)
      by_reply p queue Refused h had = absurd h
      by_reply p queue Stopped h had = absurd h
      by_reply p queue Empty h had = absurd h
      by_reply p queue Full h had = absurd h
      by_reply p queue Memory h had = absurd had

      by_queue : (o : Option Packet) → (w.link l).queued ≡ packets_in o → AnswersBy (take_reply (packets_in o)) job (Take l) reply w v →
          Delivered k l v × Moves l w v
      by_queue None queue h = (take_nothing k l w v queue free room promised h.1, unmoved l w v h.1)
      by_queue (Some p) queue h = by_reply p queue reply h had

  moving_stays : (k l : ℕ) (w v : World) → Moving k w → Moves l w v → 0 < (v.link l).capacity → Moving k v
  moving_stays k l w v at moves room = record {
    running = λ p. subst (λ (stopped : ℕ → Bool). stopped p ≡ false) (sym moves.stopped) (at.running p);
    within = λ p. subst (λ (clock : ℕ → Time). (clock p).micro ≤ job.limit) (sym moves.clock) (at.within p);
    before_end = λ p. subst (λ (clock : ℕ → Time). rank job.limit (clock p) ≤ last) (sym moves.clock) (at.before_end p);
    clocks = λ p lt. subst (λ (clock : ℕ → Time). min (suc k) (suc last) ≤ suc (rank job.limit (clock p))) (sym moves.clock)
        (at.clocks p lt);
    room = λ m. by_number m (nat_eq m l) refl;
  }
    where
      by_number : (m : ℕ) (t : Bool) → nat_eq m l ≡ t → 0 < (v.link m).capacity
      by_number m true e =
          let same : m ≡ l = same_number m l e in subst (λ (i : ℕ). 0 < (v.link i).capacity) (sym same) room
      by_number m false e = subst (λ (x : LinkState). 0 < x.capacity) (sym (moves.others m e)) (at.room m)

  pending_stays : (k l m : ℕ) (w v : World) → Pending k m w → v.link m ≡ w.link m → Pending k m v
  pending_stays k l m w v was same = record {
    empty = ap (λ (x : LinkState). x.queued) same ∙ was.empty;
    room = subst (λ (x : LinkState). 0 < x.capacity) (sym same) was.room;
    promised = subst (λ (x : LinkState). min (suc k) last ≤ rank job.limit (promised_on x)) (sym same) was.promised;
  }

  delivered_stays : (k m : ℕ) (w v : World) → Delivered k m w → v.link m ≡ w.link m → Delivered k m v
  delivered_stays k m w v was same =
      record { pending = pending_stays k m m w v was.pending same; free = ap (λ (x : LinkState). x.standing) same ∙ was.free }

  -- all puts and takes of a round
  all_move : (k base : ℕ) (chs : List Channel) (w v : World) →
      ((i : ℕ) (c : Channel) → slice_get chs i ≡ Some c → IsChannel (base + i) c) → Moving k w →
      ((l : ℕ) (c : Channel) → IsChannel l c → Pending k l w) → ((l : ℕ) (c : Channel) → IsChannel l c → l < base → Delivered k l w) →
      IsDriven job (moves_from base chs) w v →
      Moving k v × ((l : ℕ) (c : Channel) → IsChannel l c → l < base + length chs → Delivered k l v)
  all_move k base [] w v are at pending done driven =
      (subst (Moving k) (sym driven) at, λ l c e lt. subst (Delivered k l) (sym driven) (done l c e (omega arith)))
  all_move k base (d ∷ ds) w v are at pending done driven =
      let u = driven.0 in
      let second = driven.5 in
      let number : base + 0 ≡ base = omega arith in
      let here : IsChannel base d = subst (λ (n : ℕ). IsChannel n d) number (are 0 d refl) in
      let put = put_done k base d w u driven.1 here at (pending base d here) driven.2 driven.3 in
      let moved = moving_stays k base w u at put.moves put.room in
      let taken = take_done k base d u second.0 second.1 (w.link base).standing here moved.running put.queue put.free put.room put.promised
      second.2 second.3 in
      let both = then_moves base w u second.0 put.moves taken.1 in
      let first = taken.0 in
      let at_last = moving_stays k base w second.0 at both first.pending.room in
      let rest = all_move k (suc base) ds second.0 v
      (λ i c e. let next : base + suc i ≡ suc base + i = omega arith in subst (λ (n : ℕ). IsChannel n c) next (are (suc i) c e)) at_last
      (λ l c e. by_number l c e both.others first (nat_eq l base) refl)
      (λ l c e lt. by_order l c e lt both.others first (nat_eq l base) refl) second.5 in
      (rest.0, λ l c e lt. rest.1 l c e (omega arith))
    where
      by_number : (l : ℕ) (c : Channel) → IsChannel l c → IsOther base w driven.5.0 → Delivered k base driven.5.0 → (t : Bool) →
          nat_eq l base ≡ t →
          Pending k l driven.5.0
      by_number l c e others first true same =
          let number : l ≡ base = same_number l base same in subst (λ (i : ℕ). Pending k i driven.5.0) (sym number) first.pending
      by_number l c e others first false differ = pending_stays k l l w driven.5.0 (pending l c e) (others l differ)

      by_order : (l : ℕ) (c : Channel) → IsChannel l c → l < suc base → IsOther base w driven.5.0 → Delivered k base driven.5.0 →
          (t : Bool) →
          nat_eq l base ≡ t → Delivered k l driven.5.0
      by_order l c e lt others first true same =
          let number : l ≡ base = same_number l base same in subst (λ (i : ℕ). Delivered k i driven.5.0) (sym number) first
      by_order l c e lt others first false differ =
          let less : l < base = grind (arith, nat_tests) in delivered_stays k l w driven.5.0 (done l c e less) (others l differ)

  channel_within : (chs : List Channel) (i : ℕ) (c : Channel) → slice_get chs i ≡ Some c → i < length chs
  channel_within [] i c e = absurd (cc)
  channel_within (d ∷ ds) zero c e = omega arith
  channel_within (d ∷ ds) (suc i) c e = let rest = channel_within ds i c e in omega arith

  -- what is delivered is received
  delivered_clock : (k l : ℕ) (w : World) → Delivered k l w → min (suc k) last ≤ rank job.limit (channel_clock (received_in w l))
  delivered_clock k l w done =
      let x = w.link l in
      let all : all_of x ≡ x.received
      = ap (λ (queue : List Packet). x.received ++ (queue ++ packets_in x.standing)) done.pending.empty
      ∙ ap (λ (s : Option Packet). x.received ++ packets_in s) done.free
      ∙ append-nil x.received in
      let eq : rank job.limit (promised_on x) ≡ rank job.limit (channel_clock x.received)
      = ap (λ (ps : List Packet). rank job.limit (clock_after first_time ps)) all in
      omega (arith, done.pending.promised)

  -- one round
  a_round : (k : ℕ) (w v : World) → Turning k w → IsDriven job (round job) w v → Turning (suc k) v
  a_round k w v at driven =
      let parts = driven_append job (turns_from 0 job.processes) (moves_from 0 job.channels) w v driven in
      let u = parts.0 in
      let turned = all_turn k 0 job.processes w u (omega arith) at (λ q lt. absurd (omega arith)) parts.1 in
      let still = turned.0 in
      let moving : Moving k u = record {
        running = still.running;
        within = still.within;
        before_end = still.before_end;
        clocks = λ p lt. let done = turned.1 p (omega arith) in done.clock;
        room = still.room;
      } in
      let pending : (l : ℕ) (c : Channel) → IsChannel l c → Pending k l u = λ l c e. record {
        empty = still.empty l c e;
        room = still.room l;
        promised =
            let less = source_of job.processes job.channels l c sources e in
            let done = turned.1 c.source (omega arith) in
            done.promised l c e refl;
      } in
      let moved = all_move k 0 job.channels u v
      (λ i c e. let number : i ≡ 0 + i = omega arith in subst (λ (n : ℕ). IsChannel n c) number e) moving pending
      (λ l c e lt. absurd (omega arith)) parts.2 in
      let after = moved.0 in
      let all : (l : ℕ) (c : Channel) → IsChannel l c → Delivered k l v
      = λ l c e. moved.1 l c e (omega (arith, channel_within job.channels l c e)) in
      record {
        running = after.running;
        within = after.within;
        before_end = after.before_end;
        clocks = after.clocks;
        heard = λ l c e. delivered_clock k l v (all l c e);
        empty = λ l c e. let done = all l c e in done.pending.empty;
        room = after.room;
        free = λ l c e. let done = all l c e in inl done.free;
      }

  begins : (capacity : ℕ) → 0 < capacity → Turning 0 (new_world capacity)
  begins capacity some = record {
    running = λ p. refl;
    within = λ p. omega arith;
    before_end = λ p. omega arith;
    clocks = λ p lt. omega arith;
    heard = λ l c e. omega arith;
    empty = λ l c e. refl;
    room = λ l. some;
    free = λ l c e. inl refl;
  }

  after_rounds : (capacity k : ℕ) (w : World) → 0 < capacity → AreRounds job k (new_world capacity) w → Turning k w
  after_rounds capacity zero w some h = subst (Turning 0) (sym h) (begins capacity some)
  after_rounds capacity (suc k) w some h = a_round k h.0 w (after_rounds capacity k h.0 some h.1) h.2

pub clocks_follow : (job : Job) (capacity k : ℕ) (w : World) → 0 < capacity → AllHaveSources job.processes job.channels →
    AreRounds job k (new_world capacity) w → (p : ℕ) → p < job.processes →
    min k (suc (end_of job.limit job.horizon)) ≤ suc (rank job.limit (w.clock p))
clocks_follow job capacity k w some sources rounds p lt =
    let at = after_rounds job sources capacity k w some rounds in at.clocks p lt

pub windows_grow : (job : Job) (capacity k : ℕ) (w : World) → 0 < capacity → AllHaveSources job.processes job.channels →
    AreRounds job k (new_world capacity) w → (l : ℕ) (c : Channel) → slice_get job.channels l ≡ Some c →
    min k (end_of job.limit job.horizon) ≤ rank job.limit (channel_clock (received_in w l))
windows_grow job capacity k w some sources rounds l c e =
    let at = after_rounds job sources capacity k w some rounds in at.heard l c e

pub all_at_end : (job : Job) (capacity k : ℕ) (w : World) → 0 < capacity → AllHaveSources job.processes job.channels →
    AreRounds job k (new_world capacity) w → end_of job.limit job.horizon + 1 ≤ k → (p : ℕ) → p < job.processes →
    w.clock p ≡ record { tick = job.horizon + 1; micro = 0 }
all_at_end job capacity k w some sources rounds enough p lt =
    let at = after_rounds job sources capacity k w some rounds in
    let last_time : Time = record { tick = job.horizon + 1; micro = 0 } in
    let same : rank job.limit (w.clock p) ≡ rank job.limit last_time = omega (arith, at.clocks p lt, at.before_end p) in
    sym (time_of-rank job.limit (w.clock p) (at.within p)) ∙ ap (time_of job.limit) same ∙ time_of-rank job.limit last_time (omega arith)
