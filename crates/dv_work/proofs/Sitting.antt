-- What becomes of a process with its ends when a packet comes or leaves, and when it takes a turn.
use Rattle.std.proofs.Common.{◌≡◌, ℕ, ◌<◌, ◌≤◌, Bool, true, false, nat_eq, List, [], ◌∷◌, ◌++◌, length, Some}
use Rattle.std.proofs.Common.{refl, sym, ap, subst, ◌∙◌, arith}
use Rattle.std.specs.List.{All, list_any, slice_get}
use Rattle.std.proofs.lemmas.List.Elements.{All-weaker}
use Rattle.std.proofs.Math.ListN.{set}
use Rattle.std.specs.declared.alloc.Global.{Global}
use Rattle.std.specs.declared.vec.Vec.{Vec}
use Rattle.dv_time.specs.Time.{IsOfRun, rank}
use Rattle.dv_time.specs.declared.time.Time.{Time}
use Rattle.dv_devs.specs.Parts.{part_before}
use Rattle.dv_conservative.specs.Flat.{whole}
use Rattle.dv_conservative.specs.Process.{IsWithin, Packet, first_time}
use Rattle.dv_conservative.specs.True.{AreTrue}
use Rattle.dv_conservative.specs.Turn.{Position, Turned}
use Rattle.dv_conservative.specs.World.{Channel, Job, owned, share_of}
use Rattle.dv_conservative.proofs.Local.{same_number}
use Rattle.dv_core.specs.ProcessState.{IsReceived, IsSent, IsTurned, ProcessState}
use Rattle.dv_core.proofs.Lookups.{number_itself, set_each, set_other, set_same}
use Rattle.dv_link.specs.Carries.{AreTrueOn}
use Rattle.dv_link.specs.declared.link.Link.{Link}
use Rattle.dv_record.specs.Told.{Handed}
use Rattle.dv_work.specs.Ends.{IsIn, IsOut, given, taken}
use Rattle.dv_work.specs.Seats.{AreIns, AreOuts, Gives, HasHandedOver, HasTold, HasToldAll, HoldsNone, IsEmptied, IsFedTruly}
use Rattle.dv_work.specs.Seats.{Reports, Sits, holds_packet}
use Rattle.dv_work.specs.declared.pause.Pause.{Pause}
use Rattle.dv_work.specs.declared.seat.In.{In}
use Rattle.dv_work.specs.declared.seat.Out.{Out}
use Rattle.dv_work.specs.declared.seat.Seat.{Seat}
use Rattle.dv_work.proofs.Speaking.{given_the_same, now_received, others_received, received_fed, received_gives, sent_beside}
use Rattle.dv_work.proofs.Speaking.{sent_fed, sent_here, speaks, turned_fed, turned_gives, turned_later}

-- what is so of the other items, and of one that is written, is so of all after the write
each_after : {X : Type 0} (P : ℕ → X → Type 0) (xs : List X) (i : ℕ) (x y : X) → slice_get xs i ≡ Some x
    → ((j : ℕ) (z : X) → nat_eq j i ≡ false → slice_get xs j ≡ Some z → P j z) → P i y
    → (j : ℕ) (z : X) → slice_get (set xs i y) j ≡ Some z → P j z
each_after {X} P xs i x y there others own j z e = by_index (nat_eq j i) refl
  where
    by_index : (t : Bool) → nat_eq j i ≡ t → P j z
    by_index true same =
        let index = same_number j i same in
        let now : slice_get (set xs i y) i ≡ Some z = subst (λ (n : ℕ). slice_get (set xs i y) n ≡ Some z) index e in
        let is = sym (set_same xs i x y there) ∙ now in
        let value : y ≡ z = cc in
        subst (λ (n : ℕ). P n z) (sym index) (subst (P i) value own)
    by_index false other = others j z other (sym (set_other xs i j y other) ∙ e)

-- no two items have the same number
abbrev AreApart : {X : Type 0} → (X → ℕ) → List X → Type 0
AreApart {X} number xs = (i j : ℕ) (x y : X) → slice_get xs i ≡ Some x → slice_get xs j ≡ Some y → number x ≡ number y → i ≡ j

module _ {X : Type 0} (number : X → ℕ) (xs : List X) (i : ℕ) (x : X) (there : slice_get xs i ≡ Some x) (apart : AreApart number xs) where
  -- another item has another number
  pub differs : (j : ℕ) (z : X) → nat_eq j i ≡ false → slice_get xs j ≡ Some z → nat_eq (number z) (number x) ≡ false
  differs j z other e = by_test (nat_eq (number z) (number x)) refl
    where
      by_test : (t : Bool) → nat_eq (number z) (number x) ≡ t → nat_eq (number z) (number x) ≡ false
      by_test false h = h
      by_test true h =
          let index : j ≡ i = apart j i z x e there (same_number (number z) (number x) h) in
          let same : nat_eq j i ≡ true = subst (λ (n : ℕ). nat_eq j n ≡ true) index (number_itself j) in
          absurd (cc)

  pub still_apart : (y : X) → number y ≡ number x → AreApart number (set xs i y)
  still_apart y same j k a b ea eb e =
      let one = was j a ea in
      let other = was k b eb in
      apart j k one.0 other.0 one.1 other.1 (sym one.2 ∙ e ∙ other.2)
    where
      was : (j : ℕ) (z : X) → slice_get (set xs i y) j ≡ Some z → (w : X) × (slice_get xs j ≡ Some w) × (number z ≡ number w)
      was = set_each (λ (j : ℕ) (z : X). (w : X) × (slice_get xs j ≡ Some w) × (number z ≡ number w)) xs i x y there
          (λ j z e. (z, e, refl)) (x, there, same)

module _ {N : Type 0} (job : Job) (links : List (Link N)) where
  pub ins_after : (x y : ProcessState) (ins : List In) (i : ℕ) (e d : In) → slice_get ins i ≡ Some e → AreIns job links x ins
      → d.number ≡ e.number → IsIn links d → y.received e.number ≡ taken d
      → ((m : ℕ) → nat_eq m e.number ≡ false → y.received m ≡ x.received m) → AreIns job links y (set ins i d)
  ins_after x y ins i e d there are number end here beside = record {
    ends = set_each (λ j z. IsIn links z) ins i e d there are.ends end;
    channels = set_each (λ j z. _) ins i e d there are.channels
        (let was = are.channels i e there in record { channel = was.channel; there = ap (slice_get job.channels) number ∙ was.there });
    received = each_after (λ j z. y.received z.number ≡ taken z) ins i e d there
        (λ j z other at. beside z.number (differs (λ (k : In). k.number) ins i e there are.apart j z other at) ∙ are.received j z at)
        (ap y.received number ∙ here);
    apart = still_apart (λ (k : In). k.number) ins i e there are.apart d number;
  }

  pub outs_after : (p : ℕ) (x y : ProcessState) (outs : List Out) (i : ℕ) (o q : Out) → slice_get outs i ≡ Some o
      → AreOuts job links p x outs → q.number ≡ o.number → IsOut links q → Gives job p y q
      → ((r : Out) → Gives job p x r → nat_eq r.number o.number ≡ false → Gives job p y r) → AreOuts job links p y (set outs i q)
  outs_after p x y outs i o q there are number end here beside = record {
    ends = set_each (λ j z. IsOut links z) outs i o q there are.ends end;
    gives = each_after (λ j z. Gives job p y z) outs i o q there
        (λ j z other at. beside z (are.gives j z at) (differs (λ (k : Out). k.number) outs i o there are.apart j z other at)) here;
    apart = still_apart (λ (k : Out). k.number) outs i o there are.apart q number;
  }

  -- where what each end gives stays so
  pub outs_same : (p : ℕ) (x y : ProcessState) (outs : List Out) → ((o : Out) → Gives job p x o → Gives job p y o)
      → AreOuts job links p x outs → AreOuts job links p y outs
  outs_same p x y outs keeps are = record { ends = are.ends; gives = λ i o at. keeps o (are.gives i o at); apart = are.apart }

-- a process with other ends
abbrev pub seat_with : {P : Type 0} → Seat P → P → Vec Out Global → Vec In Global → Pause → Seat P
seat_with s process outs ins pause = record {
  number = s.number;
  process = process;
  outs = outs;
  ins = ins;
  posted = s.posted;
  pause = pause;
}

module _ {N P : Type 0} (job : Job) (state : P → ProcessState) (handed : P → Handed) (IsValid : P → Type 0) (links : List (Link N))
    (s : Seat P)
    (sits : Sits job state handed IsValid links s) where
  abbrev x : ProcessState
  x = state s.process

  pub reports : Reports job state handed IsValid s
  reports = record {
    valid = sits.valid;
    there = sits.fed.there;
    within = sits.fed.within;
    part = speaks job s.number x sits.fed;
    posted = sits.posted;
  }

  -- what a process has handed over stays so while its clock does not fall
  posted_later : (process : P) → handed process ≡ handed s.process
      → rank job.limit x.position.clock ≤ rank job.limit (state process).position.clock
      → HasHandedOver job s.number (state process) (handed process) s.posted
  posted_later process kept later = record {
    of_run = sits.posted.of_run;
    order = (let low = sits.posted.order in omega (arith, low, later));
    past = ap (λ (h : Handed). h.past) kept ∙ sits.posted.past;
  }

  posted_same : (process : P) → handed process ≡ handed s.process → (state process).position.clock ≡ x.position.clock
      → HasHandedOver job s.number (state process) (handed process) s.posted
  posted_same process kept same =
      posted_later process kept (let at = ap (rank job.limit) same in omega (arith, at))

  -- where the state of the process is as before, so is what it reports
  pub reports_same : (process : P) (outs : Vec Out Global) (ins : Vec In Global) → IsValid process → handed process ≡ handed s.process
      → state process ≡ x
      → Reports job state handed IsValid
      (seat_with s process outs ins s.pause)
  reports_same process outs ins valid kept same = record {
    valid = valid;
    there = reports.there;
    within = subst (λ (y : ProcessState). IsWithin (share_of job s.number) y.position.clock) (sym same) reports.within;
    part = subst (λ (y : ProcessState). y.part
        ≡ part_before (owned job s.number) job.limit (whole job.flat) job.outside (rank job.limit y.position.clock)) (sym same)
        reports.part;
    posted = posted_same process kept (ap (λ (y : ProcessState). y.position.clock) same);
  }

  module _ (process : P) (valid : IsValid process) (kept : handed process ≡ handed s.process) where
    pub same_sits : (pause : Pause) → state process ≡ x → Sits job state handed IsValid links (seat_with s process s.outs s.ins pause)
    same_sits pause same = record {
      valid = valid;
      fed = subst (IsFedTruly job s.number) (sym same) sits.fed;
      outs = subst (λ (y : ProcessState). AreOuts job links s.number y s.outs.items) (sym same) sits.outs;
      ins = subst (λ (y : ProcessState). AreIns job links y s.ins.items) (sym same) sits.ins;
      posted = posted_same process kept (ap (λ (y : ProcessState). y.position.clock) same);
    }

    pub turned_sits : (pause : Pause) (answer : Turned) → IsTurned answer x (state process)
        → Sits job state handed IsValid links (seat_with s process s.outs s.ins pause)
    turned_sits pause answer turned = record {
      valid = valid;
      fed = turned_fed job s.number x sits.fed (state process) answer turned;
      outs = outs_same job links s.number x (state process) s.outs.items
          (λ o gives. turned_gives job s.number x sits.fed (state process) answer turned o gives) sits.outs;
      ins = record {
        ends = sits.ins.ends;
        channels = sits.ins.channels;
        received = λ i e at. ap (λ (f : ℕ → List Packet). f e.number) turned.received ∙ sits.ins.received i e at;
        apart = sits.ins.apart;
      };
      posted = posted_later process kept (turned_later job s.number x sits.fed (state process) answer turned);
    }

  -- a packet is taken and received
  module _ (i : ℕ) (e d : In) (there : slice_get s.ins.items i ≡ Some e) (number : d.number ≡ e.number) (end : IsIn links d) where
    pub took_none : taken d ≡ taken e → AreIns job links x (set s.ins.items i d)
    took_none same =
        ins_after job links x x s.ins.items i e d there sits.ins number end (sits.ins.received i e there ∙ sym same) (λ m other. refl)

    module _ (process : P) (packet : Packet) (got : IsReceived packet x (state process)) (more : taken d ≡ taken e ++ packet ∷ [])
        (truth : AreTrueOn job d.number (taken d)) where
      channel : Channel
      channel = truth.channel

      at_channel : slice_get job.channels e.number ≡ Some channel
      unfolding channel
      at_channel = ap (slice_get job.channels) (sym number) ∙ truth.there

      all_true : AreTrue job e.number channel first_time (x.received e.number ++ packet ∷ [])
      unfolding channel
      all_true =
          subst (λ (ps : List Packet). AreTrue job e.number channel first_time (ps ++ packet ∷ [])) (sym (sits.ins.received i e there))
          (subst (AreTrue job e.number channel first_time) more
          (subst (λ (n : ℕ). AreTrue job n channel first_time (taken d)) number truth.truth))

      pub took_sits : IsValid process → handed process ≡ handed s.process → (ins : Vec In Global) → ins.items ≡ set s.ins.items i d
          → Sits job state handed IsValid links (seat_with s process s.outs ins s.pause)
      took_sits valid kept ins is = record {
        valid = valid;
        fed = received_fed job s.number x sits.fed (state process) packet got e.number channel at_channel all_true;
        outs = outs_same job links s.number x (state process) s.outs.items
            (λ o gives. received_gives job s.number x sits.fed (state process) packet got e.number channel at_channel all_true o gives)
            sits.outs;
        ins = subst (AreIns job links (state process)) (sym is)
            (ins_after job links x (state process) s.ins.items i e d there sits.ins number end
            (now_received job s.number x sits.fed (state process) packet got e.number channel at_channel all_true
            ∙ ap (λ (ps : List Packet). ps ++ packet ∷ []) (sits.ins.received i e there) ∙ sym more)
            (others_received job s.number x sits.fed (state process) packet got e.number channel at_channel all_true));
        posted = posted_same process kept (ap (λ (q : Position). q.clock) got.position);
      }

  -- a packet leaves the process for an end
  module _ (i : ℕ) (o q : Out) (there : slice_get s.outs.items i ≡ Some o) (number : q.number ≡ o.number) (end : IsOut links q) where
    pub given_outs : given q ≡ given o → AreOuts job links s.number x (set s.outs.items i q)
    given_outs same =
        outs_after job links s.number x x s.outs.items i o q there sits.outs number end
        (given_the_same job s.number x o q number same (sits.outs.gives i o there)) (λ r gives other. gives)

    pub sent_sits : (process : P) (packet : Packet) → IsSent o.number x (state process) → x.position.standing o.number ≡ Some packet
        → given q ≡ given o ++ packet ∷ [] → IsValid process → handed process ≡ handed s.process → (outs : Vec Out Global)
        → outs.items ≡ set s.outs.items i q
        → Sits job state handed IsValid links (seat_with s process outs s.ins s.pause)
    sent_sits process packet sent stood more valid kept outs is = record {
      valid = valid;
      fed = sent_fed job s.number x sits.fed (state process) o.number sent;
      outs = subst (AreOuts job links s.number (state process)) (sym is)
          (outs_after job links s.number x (state process) s.outs.items i o q there sits.outs number end
          (sent_here job s.number x sits.fed (state process) o.number sent o q packet (sits.outs.gives i o there) refl number stood more)
          (λ r gives other. sent_beside job s.number x sits.fed (state process) o.number sent r gives other));
      ins = record {
        ends = sits.ins.ends;
        channels = sits.ins.channels;
        received = λ j e at. ap (λ (f : ℕ → List Packet). f e.number) sent.received ∙ sits.ins.received j e at;
        apart = sits.ins.apart;
      };
      posted = posted_same process kept sent.clock;
    }

  -- what a process committed is moved out of it
  module _ (t : Seat P) (emptied : IsEmptied state handed IsValid s t) where
    pub emptied_sits : Sits job state handed IsValid links t
    emptied_sits = record {
      valid = emptied.valid;
      fed = subst (λ (n : ℕ). IsFedTruly job n (state t.process)) (sym emptied.number)
          (subst (IsFedTruly job s.number) (sym emptied.state_is) sits.fed);
      outs = subst (λ (os : Vec Out Global). AreOuts job links t.number (state t.process) os.items) (sym emptied.outs)
          (subst (λ (n : ℕ). AreOuts job links n (state t.process) s.outs.items) (sym emptied.number)
          (subst (λ (y : ProcessState). AreOuts job links s.number y s.outs.items) (sym emptied.state_is) sits.outs));
      ins = subst (λ (es : Vec In Global). AreIns job links (state t.process) es.items) (sym emptied.ins)
          (subst (λ (y : ProcessState). AreIns job links y s.ins.items) (sym emptied.state_is) sits.ins);
      posted = subst (λ (n : ℕ). HasHandedOver job n (state t.process) (handed t.process) t.posted) (sym emptied.number) (record {
        of_run = subst (IsOfRun job.limit) (sym emptied.posted) sits.fed.within.0;
        order =
            (let at = ap (rank job.limit) (emptied.posted ∙ ap (λ (y : ProcessState). y.position.clock) (sym emptied.state_is)) in
            omega (arith, at));
        past = emptied.past ∙ reports.part
            ∙ ap (λ (u : Time). part_before (owned job s.number) job.limit (whole job.flat) job.outside (rank job.limit u))
            (sym emptied.posted);
      });
    }

    abbrev same_outs : t.outs.items ≡ s.outs.items
    same_outs = ap (λ (os : Vec Out Global). os.items) emptied.outs

    pub emptied_told : HasToldAll state s → HasToldAll state t
    emptied_told told = λ i o lt at. subst (λ (y : ProcessState). HasTold y o) (sym emptied.state_is)
        (told i o (subst (λ (os : List Out). i < length os) same_outs lt)
        (subst (λ (os : List Out). slice_get os i ≡ Some o) same_outs at))

    pub emptied_holds : HoldsNone s → HoldsNone t
    emptied_holds none = ap (list_any holds_packet) same_outs ∙ none

-- all that sit report
pub all_report : {N P : Type 0} (job : Job) (state : P → ProcessState) (handed : P → Handed) (IsValid : P → Type 0) (links : List (Link N))
    (seats : List (Seat P)) → All (Sits job state handed IsValid links) seats → All (Reports job state handed IsValid) seats
all_report job state handed IsValid links seats all =
    All-weaker (λ s. Sits job state handed IsValid links s) (λ s. Reports job state handed IsValid s)
    (λ s sits. reports job state handed IsValid links s sits) seats all
