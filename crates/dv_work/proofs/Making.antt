-- Processes as they get the ends of their links.
use Rattle.std.proofs.Common.{◌≡◌, ◌⊎◌, inl, inr, ℕ, zero, suc, ◌+◌, ◌<◌, ◌≤◌, List, [], ◌∷◌, ◌++◌, append-nil, get_or, length}
use Rattle.std.proofs.Common.{map, Option, Some, None, refl, sym, ap, subst, ◌∙◌, arith}
use Rattle.std.specs.List.{All, slice_get}
use Rattle.std.proofs.Math.ListN.{length-set, set}
use Rattle.std.proofs.lemmas.Option.{slice_get_within}
use Rattle.std.specs.declared.alloc.Global.{Global}
use Rattle.std.specs.declared.vec.Vec.{Vec}
use Rattle.dv_time.specs.Time.{rank}
use Rattle.dv_time.specs.declared.time.Time.{Time}
use Rattle.dv_conservative.specs.Flat.{whole}
use Rattle.dv_conservative.specs.Process.{IsWithin, Packet, clock_after, first_time, least_clock}
use Rattle.dv_conservative.specs.True.{AreTrue}
use Rattle.dv_conservative.specs.World.{Channel, Job, owned, packets_in, share_of}
use Rattle.dv_core.specs.ProcessState.{ProcessState}
use Rattle.dv_devs.specs.Parts.{part_before}
use Rattle.dv_record.specs.Told.{Handed}
use Rattle.dv_core.proofs.Answering.{shown_at}
use Rattle.dv_core.proofs.Lookups.{set_each}
use Rattle.dv_proc.specs.Channels.{meant_channel}
use Rattle.dv_proc.specs.Packets.{meant_packets}
use Rattle.dv_proc.specs.declared.channel.Channel.{Channel as ChannelOfCode}
use Rattle.dv_link.specs.Carries.{IsLinkOf}
use Rattle.dv_link.specs.Ends.{IsSendPassOf, IsTakePassOf, new_receiver, new_sender, receiver, sender}
use Rattle.dv_link.specs.declared.link.SendPass.{SendPass}
use Rattle.dv_link.specs.declared.link.TakePass.{TakePass}
use Rattle.dv_link.specs.declared.rule.EndView.{EndView}
use Rattle.dv_link.specs.declared.link.Link.{Link}
use Rattle.dv_work.specs.Ends.{IsIn, IsOut, taken}
use Rattle.dv_work.specs.Making.{AreNew, AreSeated, IsNewIn, IsNewOut, IsSeat, no_links}
use Rattle.dv_work.specs.Seats.{AreIns, AreOuts, Gives, Sits, prepared}
use Rattle.dv_work.specs.declared.pause.Pause.TheVariants.{Over}
use Rattle.dv_work.specs.declared.seat.In.{In}
use Rattle.dv_work.specs.declared.seat.Out.{Out}
use Rattle.dv_work.specs.declared.seat.Seat.{Seat}
use Rattle.dv_work.proofs.Sitting.{seat_with}

-- reading a list with one item more
pub get_snoc : {X : Type 0} (xs : List X) (v : X) (k : ℕ) (y : X) → slice_get (xs ++ v ∷ []) k ≡ Some y
    → (slice_get xs k ≡ Some y) ⊎ ((k ≡ length xs) × (v ≡ y))
get_snoc [] v zero y e = let same : v ≡ y = cc in inr (refl, same)
get_snoc [] v (suc k) y e = absurd (cc)
get_snoc (x ∷ xs) v zero y e = inl e
get_snoc (x ∷ xs) v (suc k) y e = elim (get_snoc xs v k y e) [
  | inl h ↦ inl h
  | inr h ↦ inr (ap suc h.0, h.1)
]

pub get_more : {X : Type 0} (xs ys : List X) (k : ℕ) (y : X) → slice_get xs k ≡ Some y → slice_get (xs ++ ys) k ≡ Some y
get_more [] ys k y e = absurd (cc)
get_more (x ∷ xs) ys zero y e = e
get_more (x ∷ xs) ys (suc k) y e = get_more xs ys k y e

pub get_last : {X : Type 0} (xs : List X) (v : X) → slice_get (xs ++ v ∷ []) (length xs) ≡ Some v
get_last [] v = refl
get_last (x ∷ xs) v = get_last xs v

-- what is so of each item, and of one more, is so of each of them all
pub snoc_each : {X : Type 0} (Q : ℕ → X → Type 0) (xs ys : List X) (v : X) → ys ≡ xs ++ v ∷ []
    → ((p : ℕ) (x : X) → slice_get xs p ≡ Some x → Q p x) → Q (length xs) v → (p : ℕ) (x : X) → slice_get ys p ≡ Some x → Q p x
snoc_each {X} Q xs ys v is all last p x e = by_index (get_snoc xs v p x (subst (λ (l : List X). slice_get l p ≡ Some x) is e))
  where
    by_index : (slice_get xs p ≡ Some x) ⊎ ((p ≡ length xs) × (v ≡ x)) → Q p x
    by_index (inl at) = all p x at
    by_index (inr here) = subst (λ (n : ℕ). Q n x) (sym here.0) (subst (Q (length xs)) here.1 last)

-- what stands at an index
pub stands_at : {X : Type 0} (xs : List X) (n : ℕ) (d : X) → n < length xs → slice_get xs n ≡ Some (get_or xs n d)
stands_at [] n d lt = absurd (omega arith)
stands_at (x ∷ xs) zero d lt = refl
stands_at (x ∷ xs) (suc n) d lt = stands_at xs n d (omega arith)

pub nothing_there : {X : Type 0} (xs : List X) (k : ℕ) (y : X) → xs ≡ [] → slice_get xs k ≡ Some y → ⊥
nothing_there xs k y none e = at_none (ap (λ (l : List _). slice_get l k) (sym none) ∙ e)
  where
    at_none : slice_get [] k ≡ Some y → ⊥
    at_none h = absurd (cc)

-- one item more, with a number that is above those of the others
apart_more : {X : Type 0} (number : X → ℕ) (xs : List X) (v : X) → ((i : ℕ) (x : X) → slice_get xs i ≡ Some x → number x < number v)
    → ((i j : ℕ) (x y : X) → slice_get xs i ≡ Some x → slice_get xs j ≡ Some y → number x ≡ number y → i ≡ j)
    → (i j : ℕ) (x y : X) → slice_get (xs ++ v ∷ []) i ≡ Some x → slice_get (xs ++ v ∷ []) j ≡ Some y → number x ≡ number y → i ≡ j
apart_more {X} number xs v below apart i j x y ex ey same = by_indices (get_snoc xs v i x ex) (get_snoc xs v j y ey)
  where
    by_indices : (slice_get xs i ≡ Some x) ⊎ ((i ≡ length xs) × (v ≡ x)) → (slice_get xs j ≡ Some y) ⊎ ((j ≡ length xs) × (v ≡ y)) → i ≡ j
    by_indices (inl a) (inl b) = apart i j x y a b same
    by_indices (inl a) (inr b) =
        let less = below i x a in
        let last : number v ≡ number y = ap number b.1 in
        absurd (omega arith)
    by_indices (inr a) (inl b) =
        let less = below j y b in
        let last : number v ≡ number x = ap number a.1 in
        absurd (omega arith)
    by_indices (inr a) (inr b) = a.0 ∙ sym b.0

zero_rank : (limit : ℕ) → 0 ≡ rank limit first_time
zero_rank limit = omega arith

module _ {N P : Type 0} (job : Job) (state : P → ProcessState) (handed : P → Handed) (IsValid : P → Type 0) where
  -- a new process, before any link is made
  pub new_seat : (processes : List P) → AreNew job state handed IsValid processes → (p : ℕ) (x : P) → slice_get processes p ≡ Some x
      → (outs : Vec Out Global) (ins : Vec In Global) → outs.items ≡ [] → ins.items ≡ []
      → IsSeat job state handed IsValid (no_links {N = N}) 0 0
      (let s : Seat P = record { number = p; process = x; outs = outs; ins = ins; posted = first_time; pause = Over } in s)
  new_seat processes new p x at outs ins no_outs no_ins =
      let one = new.shares p x at in
      let fresh = one.1 in
      let inside : p < length processes = slice_get_within processes p x at in record {
        sits = record {
          valid = new.valid p x at;
          fed = record {
            fits = new.fits;
            sound = new.sound;
            there = subst (λ (n : ℕ). p < n) new.count inside;
            alike = one.0;
            committed = fresh.committed;
            truth = λ l c e. subst (AreTrue job l c first_time) (sym (fresh.received l)) tt;
            heard = subst (λ (t : Time). rank job.limit t ≤ least_clock (share_of job p) (state x).received) (sym fresh.clock)
                (omega arith);
            within = subst (IsWithin (share_of job p)) (sym fresh.clock) (omega arith, omega arith);
          };
          outs = record {
            ends = λ i o e. absurd (nothing_there outs.items i o no_outs e);
            gives = λ i o e. absurd (nothing_there outs.items i o no_outs e);
            apart = λ i j o q e d same. absurd (nothing_there outs.items i o no_outs e);
          };
          ins = record {
            ends = λ i o e. absurd (nothing_there ins.items i o no_ins e);
            channels = λ i o e. absurd (nothing_there ins.items i o no_ins e);
            received = λ i o e. absurd (nothing_there ins.items i o no_ins e);
            apart = λ i j o q e d same. absurd (nothing_there ins.items i o no_ins e);
          };
          posted = record {
            of_run = omega arith;
            order = omega arith;
            past = new.kept p x at ∙ ap (part_before (owned job p) job.limit (whole job.flat) job.outside) (zero_rank job.limit);
          };
        };
        new = fresh;
        outs = λ i o e. absurd (nothing_there outs.items i o no_outs e);
        ins = λ i o e. absurd (nothing_there ins.items i o no_ins e);
      }

  -- a link more
  out_grown : (links : List (Link N)) (l : Link N) (o : Out) → IsOut links o → IsOut (links ++ l ∷ []) o
  out_grown links l o is = record {
    at = is.at;
    is_at = get_more links (l ∷ []) o.number is.at is.is_at;
    pass_of = is.pass_of;
    link_is = is.link_is;
  }

  in_grown : (links : List (Link N)) (l : Link N) (e : In) → IsIn links e → IsIn (links ++ l ∷ []) e
  in_grown links l e is = record {
    at = is.at;
    is_at = get_more links (l ∷ []) e.number is.at is.is_at;
    pass_of = is.pass_of;
    link_is = is.link_is;
  }

  seat_grown : (links : List (Link N)) (l : Link N) (a b : ℕ) (s : Seat P) → IsSeat job state handed IsValid links a b s
      → IsSeat job state handed IsValid (links ++ l ∷ []) a b s
  seat_grown links l a b s is =
      let outs = is.sits.outs in
      let ins = is.sits.ins in record {
        sits = record {
          valid = is.sits.valid;
          fed = is.sits.fed;
          outs = record { ends = λ i o e. out_grown links l o (outs.ends i o e); gives = outs.gives; apart = outs.apart };
          ins = record {
            ends = λ i o e. in_grown links l o (ins.ends i o e);
            channels = ins.channels;
            received = ins.received;
            apart = ins.apart;
          };
          posted = is.sits.posted;
        };
        new = is.new;
        outs = is.outs;
        ins = is.ins;
      }

  pub seats_grown : (links : List (Link N)) (l : Link N) (a b : ℕ) (seats : List (Seat P)) → AreSeated job state handed IsValid links a b
      seats
      → AreSeated job state handed IsValid (links ++ l ∷ []) a b seats
  seats_grown links l a b seats are = record {
    count = are.count;
    numbers = are.numbers;
    each = λ p s at. seat_grown links l a b s (are.each p s at);
  }

  module _ (links : List (Link N)) (s : Seat P) where
    abbrev x : ProcessState
    x = state s.process

    new_gives : (b n : ℕ) → IsSeat job state handed IsValid links n b s → (o : Out) → IsNewOut job links s.number o → Gives job s.number x o
    new_gives b n is o new =
        let none : [] ≡ prepared x o
        = ap (λ (t : Option Packet). packets_in t) (sym (is.new.standing o.number))
        ∙ ap (λ (ps : List Packet). ps ++ packets_in (x.position.standing o.number)) (sym new.none) in record {
          channel = new.channel;
          there = new.there;
          own = new.own;
          truth = subst (AreTrue job o.number new.channel first_time) none tt;
          promised = is.new.promised o.number ∙ ap (clock_after first_time) none;
        }

    -- the end of a link that leads away, more
    pub with_out : (b : ℕ) (o : Out) → IsSeat job state handed IsValid links o.number b s → IsNewOut job links s.number o
        → (outs : Vec Out Global) → outs.items ≡ s.outs.items ++ o ∷ []
        → IsSeat job state handed IsValid links (o.number + 1) b
        (seat_with s s.process outs s.ins s.pause)
    with_out b o is new outs items =
        let was = is.sits.outs in
        let ends = λ (i : ℕ) (q : Out) (e : slice_get (s.outs.items ++ o ∷ []) i ≡ Some q). by_end i q (get_snoc s.outs.items o i q e) in
        let gives = λ (i : ℕ) (q : Out) (e : slice_get (s.outs.items ++ o ∷ []) i ≡ Some q). by_gift i q (get_snoc s.outs.items o i q e) in
        let below = λ (i : ℕ) (q : Out) (e : slice_get (s.outs.items ++ o ∷ []) i ≡ Some q). by_number i q
        (get_snoc s.outs.items o i q e) in
        let all : AreOuts job links s.number x (s.outs.items ++ o ∷ []) = record {
          ends = ends;
          gives = gives;
          apart = apart_more (λ (q : Out). q.number) s.outs.items o is.outs was.apart;
        } in record {
          sits = record {
            valid = is.sits.valid;
            fed = is.sits.fed;
            outs = subst (AreOuts job links s.number x) (sym items) all;
            ins = is.sits.ins;
            posted = is.sits.posted;
          };
          new = is.new;
          outs = subst (λ (l : List Out). (i : ℕ) (q : Out) → slice_get l i ≡ Some q → q.number < o.number + 1) (sym items) below;
          ins = is.ins;
        }
      where
        by_end : (i : ℕ) (q : Out) → (slice_get s.outs.items i ≡ Some q) ⊎ ((i ≡ length s.outs.items) × (o ≡ q)) → IsOut links q
        by_end i q (inl e) = is.sits.outs.ends i q e
        by_end i q (inr e) = subst (IsOut links) e.1 new.end

        by_gift : (i : ℕ) (q : Out) → (slice_get s.outs.items i ≡ Some q) ⊎ ((i ≡ length s.outs.items) × (o ≡ q)) → Gives job s.number x q
        by_gift i q (inl e) = is.sits.outs.gives i q e
        by_gift i q (inr e) = subst (Gives job s.number x) e.1 (new_gives b o.number is o new)

        by_number : (i : ℕ) (q : Out) → (slice_get s.outs.items i ≡ Some q) ⊎ ((i ≡ length s.outs.items) × (o ≡ q))
            → q.number < o.number + 1
        by_number i q (inl e) = let less = is.outs i q e in omega arith
        by_number i q (inr e) = let same : o.number ≡ q.number = ap (λ (r : Out). r.number) e.1 in omega arith

    -- the end of a link that leads here, more
    pub with_in : (a : ℕ) (d : In) → IsSeat job state handed IsValid links a d.number s → IsNewIn job links d
        → (ins : Vec In Global) → ins.items ≡ s.ins.items ++ d ∷ []
        → IsSeat job state handed IsValid links a (d.number + 1)
        (seat_with s s.process s.outs ins s.pause)
    with_in a d is new ins items =
        let was = is.sits.ins in
        let ends = λ (i : ℕ) (q : In) (e : slice_get (s.ins.items ++ d ∷ []) i ≡ Some q). by_end i q (get_snoc s.ins.items d i q e) in
        let channels = λ (i : ℕ) (q : In) (e : slice_get (s.ins.items ++ d ∷ []) i ≡ Some q). by_channel i q
        (get_snoc s.ins.items d i q e) in
        let received = λ (i : ℕ) (q : In) (e : slice_get (s.ins.items ++ d ∷ []) i ≡ Some q). by_feed i q (get_snoc s.ins.items d i q e) in
        let below = λ (i : ℕ) (q : In) (e : slice_get (s.ins.items ++ d ∷ []) i ≡ Some q). by_number i q (get_snoc s.ins.items d i q e) in
        let all : AreIns job links x (s.ins.items ++ d ∷ []) = record {
          ends = ends;
          channels = channels;
          received = received;
          apart = apart_more (λ (q : In). q.number) s.ins.items d is.ins was.apart;
        } in record {
          sits = record {
            valid = is.sits.valid;
            fed = is.sits.fed;
            outs = is.sits.outs;
            ins = subst (AreIns job links x) (sym items) all;
            posted = is.sits.posted;
          };
          new = is.new;
          outs = is.outs;
          ins = subst (λ (l : List In). (i : ℕ) (q : In) → slice_get l i ≡ Some q → q.number < d.number + 1) (sym items) below;
        }
      where
        by_end : (i : ℕ) (q : In) → (slice_get s.ins.items i ≡ Some q) ⊎ ((i ≡ length s.ins.items) × (d ≡ q)) → IsIn links q
        by_end i q (inl e) = is.sits.ins.ends i q e
        by_end i q (inr e) = subst (IsIn links) e.1 new.end

        by_channel : (i : ℕ) (q : In) → (slice_get s.ins.items i ≡ Some q) ⊎ ((i ≡ length s.ins.items) × (d ≡ q)) → IsLinkOf job q.number
        by_channel i q (inl e) = is.sits.ins.channels i q e
        by_channel i q (inr e) = subst (λ (r : In). IsLinkOf job r.number) e.1 new.channel

        by_feed : (i : ℕ) (q : In) → (slice_get s.ins.items i ≡ Some q) ⊎ ((i ≡ length s.ins.items) × (d ≡ q))
            → x.received q.number ≡ taken q
        by_feed i q (inl e) = is.sits.ins.received i q e
        by_feed i q (inr e) = subst (λ (r : In). x.received r.number ≡ taken r) e.1 (is.new.received d.number ∙ sym new.none)

        by_number : (i : ℕ) (q : In) → (slice_get s.ins.items i ≡ Some q) ⊎ ((i ≡ length s.ins.items) × (d ≡ q)) → q.number < d.number + 1
        by_number i q (inl e) = let less = is.ins i q e in omega arith
        by_number i q (inr e) = let same : d.number ≡ q.number = ap (λ (r : In). r.number) e.1 in omega arith

  -- the bounds of numbers may be greater
  looser : (links : List (Link N)) (a b c d : ℕ) → a ≤ c → b ≤ d → (s : Seat P) → IsSeat job state handed IsValid links a b s
      → IsSeat job state handed IsValid links c d s
  looser links a b c d le le' s is = record {
    sits = is.sits;
    new = is.new;
    outs = λ i o e. let less = is.outs i o e in omega arith;
    ins = λ i o e. let less = is.ins i o e in omega arith;
  }

  -- one process has an end more
  pub seated_more : (links : List (Link N)) (a b c d : ℕ) → a ≤ c → b ≤ d → (seats : List (Seat P))
      → AreSeated job state handed IsValid links a b seats
      → (p : ℕ) (s t : Seat P) → slice_get seats p ≡ Some s → t.number ≡ s.number → IsSeat job state handed IsValid links c d t
      → AreSeated job state handed IsValid links c d (set seats p t)
  seated_more links a b c d le le' seats are p s t at number is = record {
    count = length-set seats p t ∙ are.count;
    numbers = set_each (λ q z. z.number ≡ q) seats p s t at are.numbers (number ∙ are.numbers p s at);
    each = set_each (λ q z. IsSeat job state handed IsValid links c d z) seats p s t at
        (λ q z e. looser links a b c d le le' z (are.each q z e)) is;
  }

  -- all of them sit at their ends
  pub all_sit : (links : List (Link N)) (a b : ℕ) (seats : List (Seat P)) → AreSeated job state handed IsValid links a b seats
      → All (Sits job state handed IsValid links) seats
  all_sit links a b seats are k d lt = (are.each k (get_or seats k d) (stands_at seats k d lt)).sits

-- a link of the job, by the channel that stands for it
pub channel_at : (job : Job) (channels : List ChannelOfCode) → map meant_channel channels ≡ job.channels → (n : ℕ) (d : ChannelOfCode)
    → n < length channels → slice_get job.channels n ≡ Some (meant_channel (get_or channels n d))
channel_at job channels are n d lt =
    subst (λ (l : List Channel). slice_get l n ≡ Some (meant_channel (get_or channels n d))) are
    (shown_at meant_channel channels n (get_or channels n d) (stands_at channels n d lt))

-- the ends of a new link, which is the last of the links
module _ {N : Type 0} (job : Job) (old new : List (Link N)) (link : Link N) (more : new ≡ old ++ link ∷ []) (n : ℕ)
    (last : n ≡ length old) where
  is_last : slice_get new n ≡ Some link
  is_last =
      subst (λ (l : List (Link N)). slice_get l n ≡ Some link) (sym more)
      (subst (λ (m : ℕ). slice_get (old ++ link ∷ []) m ≡ Some link) (sym last) (get_last old link))

  pub new_out : (p : ℕ) (c : Channel) → slice_get job.channels n ≡ Some c → c.source ≡ p → (send : SendPass) (receiver : ℕ)
      → IsSendPassOf link send → sender send ≡ new_sender n
      → IsNewOut job new p (let o : Out = record { number = n; pass = send; held = None; receiver = receiver } in o)
  new_out p c there own send receiver of is = record {
    end = record { at = link; is_at = is_last; pass_of = of; link_is = ap (λ (v : EndView). v.link) is };
    channel = c;
    there = there;
    own = own;
    none = append-nil (meant_packets (sender send).put) ∙ ap (λ (v : EndView). meant_packets v.put) is;
  }

  pub new_in : (c : Channel) → slice_get job.channels n ≡ Some c → (take : TakePass) (sender : ℕ)
      → IsTakePassOf link take → receiver take ≡ new_receiver n
      → IsNewIn job new (let e : In = record { number = n; pass = take; sender = sender } in e)
  new_in c there take sender of is = record {
    end = record { at = link; is_at = is_last; pass_of = of; link_is = ap (λ (v : EndView). v.link) is };
    channel = record { channel = c; there = there };
    none = ap (λ (v : EndView). meant_packets v.taken) is;
  }
