-- A new world.
use Rattle.std.proofs.Common.{◌≡◌, ℕ, zero, suc, ◌<◌, Bool, false, List, [], length, map, Option, Some, None, refl, sym, ap, subst, ◌∙◌}
use Rattle.std.specs.List.{slice_get}
use Rattle.std.proofs.Math.ListN.{replicate}
use Rattle.std.proofs.lemmas.List.{length-map, length-replicate}
use Rattle.std.proofs.lemmas.Option.{slice_get-map}
use Rattle.std.specs.Option.{option_map}
use Rattle.dv_time.specs.declared.time.Time.{Time}
use Rattle.dv_conservative.specs.Alike.{AreAlike}
use Rattle.dv_conservative.specs.Process.{Packet, first_time}
use Rattle.dv_conservative.specs.World.{Channel, Job, LinkState, World, new_world, promised_on, share_of}
use Rattle.dv_proc.specs.Channels.{meant_channel}
use Rattle.dv_core.specs.Kept.{Kept, clock_of, is_stopped, link_of, queue_of, received_of, standing_of, world_of}
use Rattle.dv_core.specs.Standing.{IsReached, StandsFor}
use Rattle.dv_core.specs.ProcessState.{IsNew, ProcessState}
use Rattle.dv_core.specs.Worlds.{AreMadeFor}
use Rattle.dv_proc.specs.declared.channel.Channel.{Channel as ChannelOfCode}
use mathlib.Core.Path.{fun_ext}

none_stopped : (n p : ℕ) → is_stopped (slice_get (replicate n false) p) ≡ false
none_stopped zero p = refl
none_stopped (suc n) zero = refl
none_stopped (suc n) (suc p) = none_stopped n p

none_queued : (n l : ℕ) → queue_of (slice_get (replicate n []) l) ≡ []
none_queued zero l = refl
none_queued (suc n) zero = refl
none_queued (suc n) (suc l) = none_queued n l

abbrev new_kept : ℕ → List ProcessState → ℕ → ℕ → Kept
new_kept capacity states n m = record { capacity = capacity; states = states; stopped = replicate n false; queued = replicate m [] }

module _ (states : List ProcessState) (new : (p : ℕ) (x : ProcessState) → slice_get states p ≡ Some x → IsNew x) where
  new_clock : (p : ℕ) → clock_of (slice_get states p) ≡ first_time
  new_clock p = by_state (slice_get states p) refl
    where
      by_state : (o : Option ProcessState) → slice_get states p ≡ o → clock_of o ≡ first_time
      by_state None e = refl
      by_state (Some x) e = let is_new = new p x e in is_new.clock

  new_received : (p l : ℕ) → received_of (slice_get states p) l ≡ []
  new_received p l = by_state (slice_get states p) refl
    where
      by_state : (o : Option ProcessState) → slice_get states p ≡ o → received_of o l ≡ []
      by_state None e = refl
      by_state (Some x) e = let is_new = new p x e in is_new.received l

  new_standing : (p l : ℕ) → standing_of (slice_get states p) l ≡ None
  new_standing p l = by_state (slice_get states p) refl
    where
      by_state : (o : Option ProcessState) → slice_get states p ≡ o → standing_of o l ≡ None
      by_state None e = refl
      by_state (Some x) e = let is_new = new p x e in is_new.standing l

  module _ (job : Job) (capacity n m : ℕ) where
    abbrev k : Kept
    k = new_kept capacity states n m

    abbrev empty : LinkState
    empty = record { capacity = capacity; received = []; queued = []; standing = None }

    new_link : (l : ℕ) (o : Option Channel) → link_of k l o ≡ empty
    new_link l None = refl
    new_link l (Some c) =
        ap (λ (received : List Packet). let z : LinkState = record {
          capacity = capacity;
          received = received;
          queued = queue_of (slice_get (replicate m []) l);
          standing = standing_of (slice_get states c.source) l;
        } in z) (new_received c.target l)
        ∙ ap (λ (queued : List Packet). let z : LinkState = record {
          capacity = capacity;
          received = [];
          queued = queued;
          standing = standing_of (slice_get states c.source) l;
        } in z) (none_queued m l)
        ∙ ap (λ (standing : Option Packet). let z : LinkState = record {
          capacity = capacity;
          received = [];
          queued = [];
          standing = standing;
        } in z)
        (new_standing c.source l)

    world_by : (ℕ → Time) → (ℕ → Bool) → (ℕ → LinkState) → World
    world_by clock stopped link = record { clock = clock; stopped = stopped; link = link }

    pub is_fresh : world_of job k ≡ new_world capacity
    is_fresh =
        ap (λ (clock : ℕ → Time). let w : World = record {
          clock = clock;
          stopped = λ p. is_stopped (slice_get (replicate n false) p);
          link = λ l. link_of k l (slice_get job.channels l);
        } in w) (fun_ext new_clock)
        ∙ ap (λ (stopped : ℕ → Bool). let w : World = record {
          clock = λ p. first_time;
          stopped = stopped;
          link = λ l. link_of k l (slice_get job.channels l);
        } in w) (fun_ext (none_stopped n))
        ∙ ap (λ (link : ℕ → LinkState). let w : World = record { clock = λ p. first_time; stopped = λ p. false; link = link } in w)
        (fun_ext (λ l. new_link l (slice_get job.channels l)))

    pub fresh_stands : length states ≡ job.processes → n ≡ job.processes → m ≡ length job.channels →
        ((l : ℕ) (c : Channel) → slice_get job.channels l ≡ Some c → (c.source < job.processes) × (c.target < job.processes))
        → ((p : ℕ) (x : ProcessState) → slice_get states p ≡ Some x → AreAlike x.share (share_of job p))
        → StandsFor job k
    fresh_stands count flags links ends shares = record {
      processes = count;
      flags = length-replicate n false ∙ flags;
      links = length-replicate m [] ∙ links;
      ends = ends;
      shares = shares;
      committed = λ p x there. let is_new = new p x there in is_new.committed;
      components = λ p x there. let is_new = new p x there in is_new.components;
      promised = λ l c x e there. let is_new = new c.source x there in is_new.promised l ∙ ap promised_on (sym (new_link l (Some c)));
    }

module _ {J P : Type 0} {IsValid : P → Type 0} {means : J → Job} {state : P → ProcessState} (job : J) (channels : List ChannelOfCode)
    (processes : List P)
    (made : AreMadeFor means state IsValid job channels processes) where
  each_made : (p : ℕ) (x : ProcessState) → slice_get (map state processes) p ≡ Some x → AreAlike x.share (share_of (means job) p) × IsNew x
  each_made p x e = by_process (slice_get processes p) refl
    where
      by_process : (o : Option P) → slice_get processes p ≡ o → AreAlike x.share (share_of (means job) p) × IsNew x
      by_process None f =
          let none : Some x ≡ None = sym e ∙ slice_get-map state processes p ∙ ap (option_map state) f in absurd (cc)
      by_process (Some y) f =
          let some : Some (state y) ≡ Some x = sym (slice_get-map state processes p ∙ ap (option_map state) f) ∙ e in
          let same : state y ≡ x = cc in
          let both = made.shares p y f in
          (subst (λ (s : ProcessState). AreAlike s.share (share_of (means job) p)) same both.0, subst IsNew same both.1)

  abbrev states : List ProcessState
  states = map state processes

  abbrev kept : ℕ → Kept
  kept capacity = new_kept capacity states (length processes) (length channels)

  pub fresh_world : (capacity : ℕ) → world_of (means job) (kept capacity) ≡ new_world capacity
  fresh_world capacity =
      is_fresh states (λ p x e. let both = each_made p x e in both.1) (means job) capacity (length processes) (length channels)

  pub stands_new : (capacity : ℕ) → StandsFor (means job) (kept capacity)
  stands_new capacity =
      fresh_stands states (λ p x e. let both = each_made p x e in both.1) (means job) capacity (length processes) (length channels)
      (length-map processes state ∙ made.count) made.count
      (sym (length-map channels meant_channel) ∙ ap length made.links) made.ends
      (λ p x e. let both = each_made p x e in both.0)

  pub reached_new : (capacity : ℕ) → IsReached (means job) (world_of (means job) (kept capacity))
  reached_new capacity = record { fits = made.fits; sound = made.sound; capacity = capacity; steps = []; run = fresh_world capacity }

pub kept_new : (capacity : ℕ) (states : List ProcessState) (n m a b : ℕ) (flags : List Bool) (queued : List (List Packet)) →
    flags ≡ replicate a false → a ≡ n → queued ≡ replicate b [] → b ≡ m →
    (let k : Kept = record { capacity = capacity; states = states; stopped = flags; queued = queued } in k) ≡ new_kept capacity states n m
kept_new capacity states n m a b flags queued one count two long =
    ap (λ (x : List Bool). let k : Kept = record { capacity = capacity; states = states; stopped = x; queued = queued } in k)
    (one ∙ ap (λ (i : ℕ). replicate i false) count)
    ∙ ap (λ (x : List (List Packet)). let k : Kept = record {
      capacity = capacity;
      states = states;
      stopped = replicate n false;
      queued = x;
    } in k)
    (two ∙ ap (λ (i : ℕ). replicate i []) long)
