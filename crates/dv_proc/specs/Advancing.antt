-- What a turn computes: the clock that it leaves, until when inputs are known, and what is sent at the clock.
use Rattle.std.specs.Prelude.{◌≡◌, ℕ, suc, ◌<◌, ◌≤◌, ◌⊎◌, ◌+◌, ◌++◌, ◌&&◌, not, Bool, true, false, List, length, map, slice_get}
use Rattle.std.specs.Prelude.{slice_index_or, Option, Some, None, if◌then◌else◌, [], vec_capacity, vec_len}
use Rattle.dv_time.specs.Time.{is_before, rank}
use Rattle.dv_time.specs.declared.time.Time.{Time}
use Rattle.dv_bag.specs.Bag.{Counts}
use Rattle.dv_devs.specs.Behaviour.{is_at}
use Rattle.dv_devs.specs.NextTimes.{IsFrom, least_next}
use Rattle.dv_conservative.specs.Events.{event_of}
use Rattle.dv_conservative.specs.Process.{Outgoing as OutgoingAsMeant, Packet}
use Rattle.dv_proc.specs.Leaving.{is_prepared, standing_on}
use Rattle.dv_proc.specs.Local.{IsAfterInstant, View, brings_at, carried_away}
use Rattle.dv_proc.specs.Packets.{meant_events}
use Rattle.dv_proc.specs.declared.packet.Event.{Event}
use Rattle.dv_proc.specs.declared.outgoing.Outgoing.{Outgoing}

-- A rank until which what comes is known, from one rank to another: nothing comes before it, and it is the other or something
-- comes there.
pub record IsKnown (v : View) (from upto n : ℕ) : Type 0 where
  pub order : from ≤ n
  pub within : n ≤ upto
  pub none : (j : ℕ) → from ≤ j → j < n → brings_at v j ≡ false
  pub some : brings_at v n ≡ false → n ≡ upto

-- The next rank at which something is due, from one rank to another: nothing is due before it, and it is the other or something
-- is due there.
pub record IsNextDue (v : View) (from upto n : ℕ) : Type 0 where
  pub within : n ≤ upto
  pub next : IsFrom n (least_next v.components)
  pub none : (j : ℕ) → from ≤ j → j < n → brings_at v j ≡ false
  pub due : (n ≡ upto) ⊎ ((is_at n (least_next v.components) ≡ true) ⊎ ((from ≤ n) × (brings_at v n ≡ true)))

-- an instant took place, and the clock moved on over ranks at which nothing is due
pub record IsAdvance (k upto : ℕ) (before after : View) (n : ℕ) : Type 0 where
  pub instant : IsAfterInstant k before after
  pub next : IsNextDue after (suc k) upto n

-- links stand beside links, index by index
abbrev pub AreBeside : (ℕ → Outgoing → Outgoing → Type 0) → List Outgoing → List Outgoing → Type 0
AreBeside R xs ys = (length ys ≡ length xs) × ((j : ℕ) (d : Outgoing) → j < length xs → R j (slice_index_or xs j d) (slice_index_or ys j d))

-- a link is the same, but for room and for what is computed
pub record IsSameLink (x y : Outgoing) : Type 0 where
  pub number : y.number ≡ x.number
  pub standing : y.standing ≡ x.standing
  pub promised : y.promised ≡ x.promised
  pub pending : y.pending.items ≡ x.pending.items

-- there is room for what was computed to wait
abbrev pub HasRoom : Outgoing → Type 0
HasRoom y = vec_len y.pending + vec_len y.fresh ≤ vec_capacity y.pending

-- what is sent at a time on the link of an index was computed, and there is room for it to wait
pub record IsFresh (v : View) (sent : List (List Counts)) (now : Time) (index : ℕ) (y : Outgoing) : Type 0 where
  pub fresh : (out : OutgoingAsMeant) → slice_get v.share.outgoing index ≡ Some out
      → meant_events y.fresh.items ≡ map (event_of now) (carried_away v out.links sent)
  pub room : HasRoom y

-- what waits when a turn ends: what was sent at its time too, unless the packet of that time was prepared
abbrev pub waiting : Bool → Time → Outgoing → List Event
waiting emitted now x =
    if emitted && not (is_before now x.promised) then x.pending.items ++ x.fresh.items else x.pending.items

-- A turn ends on a link: what was sent waits, and is prepared as a packet up to a time, where none stands and more is promised.
pub record IsFinished (emitted : Bool) (now upto : Time) (x y : Outgoing) : Type 0 where
  pub number : y.number ≡ x.number
  pub promised : y.promised ≡ (if is_prepared upto x then upto else x.promised)
  pub pending : y.pending.items ≡ (if is_prepared upto x then [] else waiting emitted now x)
  pub standing : standing_on y.standing
      ≡ (if is_prepared upto x
      then Some (let p : Packet = record {
        link = x.number;
        from = x.promised;
        upto = upto;
        events =
            meant_events (waiting emitted now x);
      } in p)
      else standing_on x.standing)
