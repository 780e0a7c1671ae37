-- The state of a local run: the components of a share, what was committed, and what came and is not committed.
use Rattle.std.specs.Prelude.{◌≡◌, ℕ, ◌<◌, ◌≤◌, Bool, true, false, not, List, ◌++◌, Option, Some, None}
use Rattle.dv_time.specs.Time.{IsOfRun, rank}
use Rattle.dv_time.specs.declared.time.Time.{Time}
use Rattle.dv_bag.specs.Bag.{Counts}
use Rattle.dv_bag.specs.Part.{PartOf, joined}
use Rattle.dv_devs.specs.Behaviour.{Component}
use Rattle.dv_devs.specs.Idle.{no_values, nothing_sent}
use Rattle.dv_devs.specs.Network.{components_after, emissions, part_of_instant}
use Rattle.dv_conservative.specs.Events.{Event, deliveries_at, in_order}
use Rattle.dv_conservative.specs.Flat.{behaviours, network, numbers}
use Rattle.dv_conservative.specs.Links.{Delivery, Link, carried, delivered, sent_of}
use Rattle.dv_conservative.specs.Process.{Share, all_events, components_by, is_port_of, part_by}
use Rattle.std.specs.List.{list_all}

-- the share, its components, what they committed, and at each rank what came for them and is not committed, in any order
pub record View : Type 0 where
  pub share : Share
  pub components : List Component
  pub committed : PartOf
  pub held : ℕ → List Delivery

-- what comes at a rank, from outside and of what is held
abbrev pub input_at : View → ℕ → List Counts × List Delivery
input_at v n = (v.share.outside n, v.held n)

-- whether anything comes at a rank, if no component of the share sends
abbrev pub brings_at : View → ℕ → Bool
brings_at v n = not (no_values ((network v.share.flat).arrives (nothing_sent (network v.share.flat)) (input_at v n)))

-- the first rank from one on at which anything comes, if there is one
abbrev pub IsFirstInput : View → ℕ → Option Time → Type 0
IsFirstInput v k None = (n : ℕ) → k ≤ n → brings_at v n ≡ false
IsFirstInput v k (Some t) =
    IsOfRun v.share.limit t × (k ≤ rank v.share.limit t) × (brings_at v (rank v.share.limit t) ≡ true)
    × ((n : ℕ) → k ≤ n → n < rank v.share.limit t → brings_at v n ≡ false)

-- The instant at a rank was committed: the components reacted and the part grew; what is held for later ranks stays.
pub record IsAfterInstant (n : ℕ) (before after : View) : Type 0 where
  pub share : after.share ≡ before.share
  pub components : after.components
      ≡ components_after before.share.limit (network before.share.flat) n (input_at before n) before.components
  pub committed : after.committed
      ≡ joined before.committed (part_of_instant before.share.limit (network before.share.flat) n (input_at before n) before.components)
  pub held : (m : ℕ) → n < m → after.held m ≡ before.held m

-- two lists of deliveries make the same bags
abbrev pub DeliverAlike : List Delivery → List Delivery → Type 0
DeliverAlike ds es = (k port : ℕ) (bag : Counts) → delivered k port ds bag ≡ delivered k port es bag

-- events came: at each rank they are held with what was held before
pub record IsAfterEvents (events : List Event) (before after : View) : Type 0 where
  pub share : after.share ≡ before.share
  pub components : after.components ≡ before.components
  pub committed : after.committed ≡ before.committed
  pub held : (n : ℕ) → DeliverAlike (after.held n) (before.held n ++ deliveries_at before.share.limit events n)

-- what the components send at a rank
abbrev pub sent_at : View → ℕ → List (List Counts)
sent_at v n = emissions (behaviours v.share.flat.members) n v.components

-- what links carry of it, in order
abbrev pub carried_away : View → List Link → List (List Counts) → List Delivery
carried_away v links sent = in_order (carried links (sent_of (numbers v.share.flat.members) sent))

-- The state is the local run of some events at a rank: the components are those of that rank, what is before it is committed, and from
-- there on what is held is what the events bring.
pub record IsLocalRun (v : View) (events : ℕ → List Event) (k : ℕ) : Type 0 where
  pub components : v.components ≡ components_by v.share events k
  pub committed : v.committed ≡ part_by v.share events k
  pub held : (n : ℕ) → k ≤ n → DeliverAlike (v.held n) (deliveries_at v.share.limit (all_events v.share.incoming events) n)

-- all events are for ports of components of the share
abbrev pub are_for_ports : Share → List Event → Bool
are_for_ports s es = list_all (λ (e : Event). is_port_of s.flat.members e.component e.port) es
